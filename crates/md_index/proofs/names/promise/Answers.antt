use Rattle.std.proofs.Common.{rules, ◌≡◌, true, refl, ◌∙◌, ap}
use Rattle.std.specs.Prelude.{Some, None, is_some}
use Rattle.std.specs.Ordering.{nat_cmp}
use Rattle.std.specs.Cmp.Lexicographic.{slice_cmp}
use Rattle.md_world.specs.Orders.{value_cmp}
use Rattle.md_index.specs.States.{state_in, named_state, is_on}
use Rattle.md_index.proofs.Exact.{exact_name}
use Rattle.std.proofs.lemmas.Bool.{false≢true}
use Rattle.md_index.proofs.Updates.{updated, nothing}
use Rattle.md_index.proofs.names.promise.Goals as goal

pub returns-in-Some-clause-same : goal.returns-in-Some-clause-same
returns-in-Some-clause-same c n v p =
    updated (slice_cmp nat_cmp) exact_name c.args.names.now (c.get_mut.follows.lender c.promise.new.values) c.args.fact.now.name (Some c.in-Some.values.now) (Some c.promise.new.values) (search rules) ((c.get_mut.follows.holds c.promise.new.values).3 (search rules)).0
    (λ here o m. is_on (named_state m v p) ≡ is_on (named_state o v p)) (c.promise.ensures.same v p) (λ o. refl) n

pub returns-in-Some-clause-keeps : goal.returns-in-Some-clause-keeps
returns-in-Some-clause-keeps c n v p =
    updated (slice_cmp nat_cmp) exact_name c.args.names.now (c.get_mut.follows.lender c.promise.new.values) c.args.fact.now.name (Some c.in-Some.values.now) (Some c.promise.new.values) (search rules) ((c.get_mut.follows.holds c.promise.new.values).3 (search rules)).0
    (λ here o m. is_some (named_state o v p) ≡ true → is_some (named_state m v p) ≡ true) (c.promise.ensures.keeps v p) (λ o h. h) n

pub returns-clause-same : goal.returns-clause-same
returns-clause-same c n v p =
    let empty = nothing value_cmp c.new-values.result c.new-values.ensures.empty v in
    updated (slice_cmp nat_cmp) exact_name c.args.names.now c.insert.new.self c.args.fact.now.name None (Some c.promise-2.new.values) (search rules) (search rules)
    (λ here o m. is_on (named_state m v p) ≡ is_on (named_state o v p)) (c.promise-2.ensures.same v p ∙ ap (λ o. is_on (state_in o p)) empty) (λ o. refl) n

pub returns-clause-keeps : goal.returns-clause-keeps
returns-clause-keeps c n v p =
    updated (slice_cmp nat_cmp) exact_name c.args.names.now c.insert.new.self c.args.fact.now.name None (Some c.promise-2.new.values) (search rules) (search rules)
    (λ here o m. is_some (named_state o v p) ≡ true → is_some (named_state m v p) ≡ true) (λ h. absurd (false≢true h)) (λ o h. h) n
