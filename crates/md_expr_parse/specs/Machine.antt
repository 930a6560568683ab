-- Reads items as an expression, with the levels that are open, the innermost first.
use Rattle.std.specs.Prelude.{Bool, true, false, List, [], ◌∷◌, ◌++◌, Option, Some, None}
use Rattle.md_expr_tree.specs.declared.tree.Expr.{Expr}
use Rattle.md_expr_tree.specs.declared.tree.Expr.TheVariants as expr
use Rattle.md_expr_tree.specs.declared.token.Item.{Item}
use Rattle.md_expr_tree.specs.declared.token.Item.TheVariants as item
use Rattle.md_expr_tree.specs.Grammar.{all_of, any_of}
use Rattle.md_expr_parse.specs.declared.build.Level.{Level}

-- the expression that ends here
abbrev pub closed : List Expr → List Expr → Expr
closed ors ands = any_of (ors ++ all_of ands ∷ [])

abbrev pub signed : Bool → Expr → Expr
signed false e = e
signed true e = expr.Not e

-- ready: a unit has just ended, and it is the last of `ands`
abbrev pub run : Bool → List Level → List Expr → List Expr → List Item → Option Expr
run false outer ors ands (item.Test t ∷ is) = run true outer ors (ands ++ expr.Test t ∷ []) is
run false outer ors ands (item.Open ∷ is) = run false (record { ors = ors; ands = ands; negated = false } ∷ outer) [] [] is
run false outer ors ands (item.OpenNot ∷ is) = run false (record { ors = ors; ands = ands; negated = true } ∷ outer) [] [] is
run true outer ors ands (item.And ∷ is) = run false outer ors ands is
run true outer ors ands (item.Or ∷ is) = run false outer (ors ++ all_of ands ∷ []) [] is
run true (l ∷ outer) ors ands (item.Close ∷ is) = run true outer l.ors (l.ands ++ signed l.negated (closed ors ands) ∷ []) is
run true [] ors ands [] = Some (closed ors ands)
run _ _ _ _ _ = None
