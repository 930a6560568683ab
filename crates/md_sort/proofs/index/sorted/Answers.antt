use Rattle.std.proofs.Common.{rules, ◌≡◌, ◌<◌, length}
use Rattle.std.specs.Prelude.{Some, None, slice_get}
use Rattle.slab.specs.Slab.{get}
use Rattle.md_pages.proofs.Pages.{not_there}
use Rattle.md_sort.proofs.Slots.{sorted_more}
use Rattle.md_sort.proofs.index.sorted.Goals.{in-Some, in_default}
use Rattle.md_sort.proofs.index.sorted.Goals as goal

pub add-requires-clause-absent : goal.add-requires-clause-absent
add-requires-clause-absent c =
    let at : slice_get c.args.paths.now.items c.loop-place.place ≡ Some c.in-Some.slot = search rules in
    (sorted_more (get c.args.rows.now) c.args.keys.now c.args.paths.now.items c.loop-place.sorted.items c.loop-place.place c.in-Some.slot c.requires.differ at c.loop-place.invariant.2).0

pub loop-place-preserved : goal.loop-place-preserved
loop-place-preserved c =
    elim c.match-get.branch [
      | in-Some w ↦
          let at : slice_get c.args.paths.now.items c.loop-place.place ≡ Some w.in-Some.slot = search rules in
          let more = sorted_more (get c.args.rows.now) c.args.keys.now c.args.paths.now.items c.loop-place.sorted.items c.loop-place.place w.in-Some.slot c.requires.differ at c.loop-place.invariant.2 in
          search rules
      | in_default w ↦
          let none : slice_get c.args.paths.now.items c.loop-place.place ≡ None = search rules in
          let within : c.loop-place.place < length c.args.paths.now.items = search rules in
          absurd (not_there c.args.paths.now.items c.loop-place.place within none)
    ]
