use Rattle.std.proofs.Common.{rules, ◌≡◌, true, false, sym, ◌∙◌}
use Rattle.slab.specs.Slab.{get}
use Rattle.md_world.specs.Tables.{has_path, has_at}
use Rattle.md_sort.specs.Slots.{rows_at}
use Rattle.md_sort.proofs.Placed.{none_out, found_there}
use Rattle.md_sort.proofs.Slots.{has_permuted}
use Rattle.md_sort.proofs.index.take_out.Goals as goal

pub returns-in-Ok-clause-found : goal.returns-in-Ok-clause-found
returns-in-Ok-clause-found c =
    let find = get c.args.rows.now in
    let same = has_permuted c.args.path.now (rows_at find c.args.paths.now.items) (rows_at find c.args.places.now.items) c.requires.same in
    let has : has_at (rows_at find c.args.paths.now.items) c.in-Ok.place c.args.path.now ≡ true = search rules in
    sym (found_there c.args.path.now (rows_at find c.args.paths.now.items) c.in-Ok.place has) ∙ same

pub returns-in-Err-clause-found : goal.returns-in-Err-clause-found
returns-in-Err-clause-found c =
    let find = get c.args.rows.now in
    let same = has_permuted c.args.path.now (rows_at find c.args.paths.now.items) (rows_at find c.args.places.now.items) c.requires.same in
    let none : has_path (rows_at find c.args.paths.now.items) c.args.path.now ≡ false = search rules in
    sym none ∙ same

pub returns-in-Err-clause-rows : goal.returns-in-Err-clause-rows
returns-in-Err-clause-rows c =
    let find = get c.args.rows.now in
    let same = has_permuted c.args.path.now (rows_at find c.args.paths.now.items) (rows_at find c.args.places.now.items) c.requires.same in
    let none : has_path (rows_at find c.args.paths.now.items) c.args.path.now ≡ false = search rules in
    sym (none_out c.args.path.now (rows_at find c.args.places.now.items) (sym same ∙ none))
