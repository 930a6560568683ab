use Rattle.std.proofs.Common.{rules, ◌≡◌, refl}
use Rattle.std.specs.Prelude.{Some}
use Rattle.md_world.specs.Orders.{value_cmp}
use Rattle.md_index.specs.States.{state_in, is_on}
use Rattle.md_index.proofs.Exact.{exact_value}
use Rattle.md_index.proofs.Updates.{updated}
use Rattle.md_index.proofs.values.sweep_place.Goals as goal

pub returns-in-Some : goal.returns-in-Some
returns-in-Some c v p =
    updated value_cmp exact_value c.args.values.now (c.get_mut.follows.lender c.sweep.new.places) c.args.indexed.now (Some c.in-Some.places.now) (Some c.sweep.new.places) (search rules) ((c.get_mut.follows.holds c.sweep.new.places).3 (search rules)).0
    (λ here o m. is_on (state_in m p) ≡ is_on (state_in o p)) (c.sweep.ensures p) (λ o. refl) v
