-- Rows that satisfy an expression are among its candidates.
use Rattle.std.specs.Prelude.{◌≡◌, ℕ, ℤ, true, List}
use Rattle.std.specs.List.{AllByRecursion}
use Rattle.md_world.specs.declared.Row.{Row}
use Rattle.md_expr_tree.specs.declared.tree.Expr.{Expr}
use Rattle.md_match.specs.Satisfies.{satisfies}
use Rattle.md_match.specs.Candidates.{RowSet, candidate}

-- if the row satisfies the expression, it is among the candidates
abbrev pub IsHit : (RowSet → ℕ) → ℤ → ℤ → Row → Expr → Type 0
IsHit size now offset row e = satisfies now offset e row.attrs ≡ true → candidate size now offset e row ≡ true

abbrev pub AreHits : (RowSet → ℕ) → ℤ → ℤ → Row → List Expr → Type 0
AreHits size now offset row es = AllByRecursion (IsHit size now offset row) es
