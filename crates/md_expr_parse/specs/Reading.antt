-- What reading tokens answers, within the most groups and comparisons.
use Rattle.std.specs.Prelude.{◌<◌, ◌≤◌, List, Result, Ok, Err}
use Rattle.md_expr_tree.specs.declared.tree.Expr.{Expr}
use Rattle.md_expr_tree.specs.declared.token.Token.{Token}
use Rattle.md_expr_tree.specs.Counts.{comparisons}
use Rattle.md_expr_tree.specs.Limits.{most_groups, most_comparisons}
use Rattle.md_expr_tree.specs.Grammar.{IsExpression, groups}
use Rattle.md_expr_parse.specs.declared.read.ReadError.{ReadError}
use Rattle.md_expr_parse.specs.declared.read.ReadError.TheVariants as error

abbrev pub Reading : Result Expr ReadError → List Token → Type 0
Reading (Ok e) ts = (d : IsExpression ts e) × (groups d ≤ most_groups) × (comparisons e ≤ most_comparisons)
Reading (Err error.TooLong) ts = ⊥
Reading (Err error.NotExpression) ts = (e : Expr) → IsExpression ts e → ⊥
Reading (Err error.TooDeep) ts = (e : Expr) × (d : IsExpression ts e) × (most_groups < groups d)
Reading (Err error.TooMany) ts = (e : Expr) × (d : IsExpression ts e) × (groups d ≤ most_groups) × (most_comparisons < comparisons e)
Reading (Err error.Memory) ts = Unit {0}
