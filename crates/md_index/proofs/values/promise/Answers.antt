use Rattle.std.proofs.Common.{rules, ◌≡◌, ℕ, true, false, refl, eqb}
use Rattle.std.specs.Prelude.{Some, None, is_some}
use Rattle.md_world.specs.Orders.{value_cmp}
use Rattle.md_world.proofs.Lookups.{by_test}
use Rattle.md_index.specs.declared.places.Places.TheVariants.{One}
use Rattle.md_index.specs.States.{one_state, state_in, is_on}
use Rattle.md_index.proofs.Exact.{exact_value}
use Rattle.std.proofs.lemmas.Bool.{false≢true}
use Rattle.md_index.proofs.Updates.{updated}
use Rattle.md_index.proofs.values.promise.Goals as goal

pub returns-in-Some-clause-same : goal.returns-in-Some-clause-same
returns-in-Some-clause-same c v p =
    updated value_cmp exact_value c.args.values.now (c.get_mut.follows.lender c.promise.new.places) c.args.indexed.now (Some c.in-Some.places.now) (Some c.promise.new.places) (search rules) ((c.get_mut.follows.holds c.promise.new.places).3 (search rules)).0
    (λ here o m. is_on (state_in m p) ≡ is_on (state_in o p)) (c.promise.ensures.same p) (λ o. refl) v

pub returns-in-Some-clause-keeps : goal.returns-in-Some-clause-keeps
returns-in-Some-clause-keeps c v p =
    updated value_cmp exact_value c.args.values.now (c.get_mut.follows.lender c.promise.new.places) c.args.indexed.now (Some c.in-Some.places.now) (Some c.promise.new.places) (search rules) ((c.get_mut.follows.holds c.promise.new.places).3 (search rules)).0
    (λ here o m. is_some (state_in o p) ≡ true → is_some (state_in m p) ≡ true) (c.promise.ensures.keeps p) (λ o h. h) v

-- room for one place counts none
uncounted : (place p : ℕ) → is_on (one_state place false p) ≡ false
uncounted place p = by_test (eqb p place) (λ e. rw e refl) (λ e. rw e refl)

pub returns-clause-same : goal.returns-clause-same
returns-clause-same c v p =
    updated value_cmp exact_value c.args.values.now c.insert.new.self c.args.indexed.now None (Some (One c.args.place false)) (search rules) (search rules)
    (λ here o m. is_on (state_in m p) ≡ is_on (state_in o p)) (uncounted c.args.place p) (λ o. refl) v

pub returns-clause-keeps : goal.returns-clause-keeps
returns-clause-keeps c v p =
    updated value_cmp exact_value c.args.values.now c.insert.new.self c.args.indexed.now None (Some (One c.args.place false)) (search rules) (search rules)
    (λ here o m. is_some (state_in o p) ≡ true → is_some (state_in m p) ≡ true) (λ h. absurd (false≢true h)) (λ o h. h) v
