use Rattle.std.proofs.Common.{rules, ◌≡◌, ◌==◌, ◌&&◌, refl, sym, subst}
use Rattle.std.specs.Prelude.{Some}
use Rattle.std.specs.Ordering.{is_eq}
use Rattle.md_world.specs.Orders.{value_cmp}
use Rattle.md_index.specs.States.{state_in, value_state, written}
use Rattle.md_index.proofs.Exact.{exact_value}
use Rattle.md_index.proofs.Updates.{updated, stayed, unwritten}
use Rattle.md_index.proofs.values.write.Goals as goal

pub returns-in-Some : goal.returns-in-Some
returns-in-Some c v p =
    updated value_cmp exact_value c.args.values.now (c.get_mut.follows.lender c.write.new.places) c.args.indexed.now (Some c.in-Some.places.now) (Some c.write.new.places) (search rules) ((c.get_mut.follows.holds c.write.new.places).3 (search rules)).0
    (λ here o m. state_in m p ≡ written (here && (c.args.place == p)) c.args.flag (state_in o p)) (c.write.ensures p) (λ o. unwritten c.args.flag (state_in o p)) v

pub returns-in_default : goal.returns-in_default
returns-in_default c v p =
    subst (λ m. value_state m v p ≡ written (is_eq (value_cmp c.args.indexed.now v) && (c.args.place == p)) c.args.flag (value_state c.args.values.now v p)) (sym c.get_mut.follows.holds-at-none)
    (stayed value_cmp exact_value c.args.values.now c.args.indexed.now (search rules) (λ here o. state_in o p ≡ written (here && (c.args.place == p)) c.args.flag (state_in o p)) refl (λ o. unwritten c.args.flag (state_in o p)) v)
