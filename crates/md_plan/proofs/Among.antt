-- A row that satisfies an expression is among its candidates.
use Rattle.std.proofs.Common.{◌≡◌, ℕ, ◌+◌, ◌<◌, ◌≤◌, Bool, true, false, cond, ◌&&◌, List, [], ◌∷◌, length, map, drop, get_or, refl, sym, ◌∙◌, ap, subst}
use Rattle.std.specs.Prelude.{ℤ, nat_lt}
use Rattle.std.specs.List.{AllByRecursion, list_all, list_any}
use Rattle.std.proofs.lemmas.List.{at_drop_more, at_drop_all}
use Rattle.std.proofs.lemmas.Bool.{or_left, or_right}
use Rattle.md_world.specs.declared.Row.{Row}
use Rattle.md_world.proofs.Lookups.{by_test}
use Rattle.md_expr_tree.specs.declared.tree.Test.{Test}
use Rattle.md_expr_tree.specs.declared.tree.Expr.{Expr}
use Rattle.md_expr_tree.specs.declared.tree.Expr.TheVariants as expr
use Rattle.md_match.specs.Satisfies.{holds, satisfies}
use Rattle.md_match.specs.Candidates.{RowSet, everything, narrows, smaller, smallest_from, smallest, union, candidate}
use Rattle.md_match.proofs.Trees.{satisfies-Test, satisfies-All, satisfies-Any}
use Rattle.md_index.proofs.Bools.{and_first, and_second, or_else, both_true}
use Rattle.md_plan.specs.Hits.{IsHit, AreHits}
use Rattle.md_plan.proofs.Trees.{candidate-Test, candidate-Not, candidate-All, candidate-Any}

module _ (size : RowSet → ℕ) (now offset : ℤ) (row : Row) where
  smaller_in : (a b : RowSet) → a row ≡ true → b row ≡ true → smaller size a b row ≡ true
  smaller_in a b h k = of_test (nat_lt (size b) (size a))
    where
      of_test : (t : Bool) → cond t b a row ≡ true
      of_test true = k
      of_test false = h

  smallest_from_in : (set : RowSet) (sets : List RowSet) → set row ≡ true → list_all (λ (s : RowSet). s row) sets ≡ true → smallest_from size set sets row ≡ true
  smallest_from_in set [] h all = h
  smallest_from_in set (other ∷ sets) h all =
      smallest_from_in (smaller size set other) sets (smaller_in set other h (and_first (other row) (list_all (λ (s : RowSet). s row) sets) all)) (and_second (other row) (list_all (λ (s : RowSet). s row) sets) all)

  smallest_in : (sets : List RowSet) → list_all (λ (s : RowSet). s row) sets ≡ true → smallest size sets row ≡ true
  smallest_in [] all = refl
  smallest_in (set ∷ sets) all = smallest_from_in set sets (and_first (set row) (list_all (λ (s : RowSet). s row) sets) all) (and_second (set row) (list_all (λ (s : RowSet). s row) sets) all)

  all_in : (es : List Expr) → AreHits size now offset row es → list_all (λ is. is) (map (λ e. satisfies now offset e row.attrs) es) ≡ true → list_all (λ (s : RowSet). s row) (map (candidate size now offset) es) ≡ true
  all_in [] hits h = refl
  all_in (e ∷ es) hits h =
      let rest = list_all (λ is. is) (map (λ e. satisfies now offset e row.attrs) es) in
      both_true (candidate size now offset e row) (list_all (λ (s : RowSet). s row) (map (candidate size now offset) es)) (hits.0 (and_first (satisfies now offset e row.attrs) rest h)) (all_in es hits.1 (and_second (satisfies now offset e row.attrs) rest h))

  any_in : (es : List Expr) → AreHits size now offset row es → list_any (λ is. is) (map (λ e. satisfies now offset e row.attrs) es) ≡ true → union (map (candidate size now offset) es) row ≡ true
  any_in [] hits h = h
  any_in (e ∷ es) hits h =
      let first = satisfies now offset e row.attrs in
      let rest = list_any (λ is. is) (map (λ e. satisfies now offset e row.attrs) es) in
      by_test first
      (λ t. or_left (candidate size now offset e row) (union (map (candidate size now offset) es) row) (hits.0 t))
      (λ t. or_right (candidate size now offset e row) (union (map (candidate size now offset) es) row) (any_in es hits.1 (or_else first rest h t)))

  test_in : (t : Test) (b : Bool) → holds now offset t row.attrs ≡ true → cond b (λ (r : Row). holds now offset t r.attrs) everything row ≡ true
  test_in t true h = h
  test_in t false h = refl

  pub test_hit : (t : Test) → IsHit size now offset row (expr.Test t)
  test_hit t h = ap (λ set. set row) (candidate-Test size now offset t) ∙ test_in t (narrows t) (sym (satisfies-Test now offset row.attrs t) ∙ h)

  pub not_hit : (e : Expr) → IsHit size now offset row (expr.Not e)
  not_hit e h = ap (λ set. set row) (candidate-Not size now offset e)

  pub all_hit : (es : List Expr) → AreHits size now offset row es → IsHit size now offset row (expr.All es)
  all_hit es hits h = ap (λ set. set row) (candidate-All size now offset es) ∙ smallest_in (map (candidate size now offset) es) (all_in es hits (sym (satisfies-All now offset row.attrs es) ∙ h))

  pub any_hit : (es : List Expr) → AreHits size now offset row es → IsHit size now offset row (expr.Any es)
  any_hit es hits h = ap (λ set. set row) (candidate-Any size now offset es) ∙ any_in es hits (sym (satisfies-Any now offset row.attrs es) ∙ h)

-- where each of the rest is a hit, all are
pub hits_more : (P : Expr → Type 0) (es : List Expr) (i : ℕ) (e : Expr) → i < length es → e ≡ get_or es i e → P e → (AllByRecursion P (drop i es) → AllByRecursion P es) → AllByRecursion P (drop (i + 1) es) → AllByRecursion P es
hits_more P es i e h is here so_far rest =
    let step : drop i es ≡ get_or es i e ∷ drop (i + 1) es = at_drop_more (λ (left : List Expr). left) es i e h in
    so_far (subst (AllByRecursion P) (sym step) (subst P is here, rest))

pub hits_end : (P : Expr → Type 0) (es : List Expr) (i : ℕ) → length es ≤ i → (AllByRecursion P (drop i es) → AllByRecursion P es) → AllByRecursion P es
hits_end P es i h so_far =
    let none : drop i es ≡ [] = at_drop_all (λ (left : List Expr). left) es i h in
    so_far (subst (AllByRecursion P) (sym none) (tt {0}))
