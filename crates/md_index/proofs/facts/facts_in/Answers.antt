use Rattle.std.proofs.Common.{rules, ◌≡◌, ◌<◌, length}
use Rattle.std.specs.Prelude.{Some, None, slice_get}
use Rattle.std.specs.Option.{option_map}
use Rattle.md_index.proofs.Listing.{facts_pushed, facts_passed, none_within}
use Rattle.md_index.proofs.facts.facts_in.Goals as goal
use Rattle.md_index.proofs.facts.facts_in.Goals.{in-Some+then-not-is+in_ok-push_values, in-Some+else-not-is, in_default}

pub loop-place-preserved : goal.loop-place-preserved
loop-place-preserved c =
    let attrs = c.args.row.now.attrs in
    let other = option_map (λ r. r.now) c.args.other in
    let i = c.loop-place.place in
    elim c.match-at.branch [
      | in-Some+then-not-is+in_ok-push_values w ↦
          let there : slice_get attrs i ≡ Some (w.in-Some.name.now, w.in-Some.values.now) = search rules in
          rw w.facts-is (facts_pushed other attrs i (w.in-Some.name.now, w.in-Some.values.now) there c.loop-place.facts.items w.push_values.new.facts.items (search rules) (search rules) c.loop-place.invariant)
      | in-Some+else-not-is w ↦
          let there : slice_get attrs i ≡ Some (w.in-Some.name.now, w.in-Some.values.now) = search rules in
          rw w.facts-is (facts_passed other attrs i (w.in-Some.name.now, w.in-Some.values.now) there c.loop-place.facts.items (search rules) c.loop-place.invariant)
      | in_default w ↦
          let none : slice_get attrs i ≡ None = search rules in
          let within : i < length attrs = search rules in
          absurd (none_within attrs i within none)
    ]
