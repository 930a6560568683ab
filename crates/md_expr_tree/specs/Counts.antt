-- How many comparisons an expression has.
use Rattle.std.specs.Prelude.{ℕ, ◌+◌, List, [], ◌∷◌, map}
use Rattle.md_expr_tree.specs.declared.tree.Expr.{Expr}
use Rattle.md_expr_tree.specs.declared.tree.Expr.TheOpen.{Expr-F}
use Rattle.md_expr_tree.specs.declared.tree.Expr.TheFolds.{fold-Expr}

-- the sum of a list
abbrev pub sum_of : List ℕ → ℕ
sum_of [] = 0
sum_of (n ∷ ns) = n + sum_of ns

-- from the numbers of the operands
abbrev pub comparisons_step : Expr-F ℕ → ℕ
comparisons_step (Expr-F.Test t) = 1
comparisons_step (Expr-F.Not n) = n
comparisons_step (Expr-F.All ns) = sum_of ns
comparisons_step (Expr-F.Any ns) = sum_of ns

unfoldable pub comparisons : Expr → ℕ
comparisons = fold-Expr ℕ comparisons_step

abbrev pub comparisons_of_all : List Expr → ℕ
comparisons_of_all es = sum_of (map comparisons es)
