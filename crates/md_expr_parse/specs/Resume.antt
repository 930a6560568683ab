-- What comes of a builder and the items that are left.
use Rattle.std.specs.Prelude.{List, Option, reverse}
use Rattle.md_expr_tree.specs.declared.tree.Expr.{Expr}
use Rattle.md_expr_tree.specs.declared.token.Item.{Item}
use Rattle.md_expr_parse.specs.declared.build.Builder.{Builder}
use Rattle.md_expr_parse.specs.Machine.{run}

abbrev pub resume : Builder → List Item → Option Expr
resume b is = run b.ready (reverse b.outer) b.ors b.ands is
