-- Well made expressions.
use Rattle.std.specs.Prelude.{Bool, true, false, ◌&&◌, nat_le, List, length}
use Rattle.std.specs.List.{list_all}
use Rattle.md_expr_tree.specs.declared.tree.Literal.{Literal}
use Rattle.md_expr_tree.specs.declared.tree.Literal.TheVariants as literal
use Rattle.md_expr_tree.specs.declared.tree.Test.{Test}
use Rattle.md_expr_tree.specs.declared.tree.Test.TheVariants as test
use Rattle.md_expr_tree.specs.declared.tree.Expr.{Expr}
use Rattle.md_expr_tree.specs.declared.tree.Expr.TheOpen.{Expr-F}
use Rattle.md_expr_tree.specs.declared.tree.Expr.TheFolds.{fold-Expr}

-- a string has at least one piece
abbrev pub is_well_made_literal : Literal → Bool
is_well_made_literal (literal.Words pieces fold marks) = nat_le 1 (length pieces)
is_well_made_literal _ = true

-- a number or a form of time
abbrev pub is_bound : Literal → Bool
is_bound (literal.Number n) = true
is_bound (literal.Time f) = true
is_bound _ = false

abbrev pub is_well_made_test : Test → Bool
is_well_made_test (test.Compare s o v) = is_well_made_literal v
is_well_made_test (test.Range n least greatest) = is_bound least && is_bound greatest

-- two or more, each well made
abbrev pub is_chain : List Bool → Bool
is_chain members = nat_le 2 (length members) && list_all (λ is. is) members

-- from whether the operands are
abbrev pub well_made_step : Expr-F Bool → Bool
well_made_step (Expr-F.Test t) = is_well_made_test t
well_made_step (Expr-F.Not is) = is
well_made_step (Expr-F.All members) = is_chain members
well_made_step (Expr-F.Any members) = is_chain members

-- each `All` and `Any` has two or more members, each string a piece, each range two bounds
unfoldable pub is_well_made : Expr → Bool
is_well_made = fold-Expr Bool well_made_step
