-- The canonical spelling of expressions.
use Rattle.std.specs.Prelude.{ℕ, List, ◌++◌, map, codes, chars}
use Rattle.md_expr_tree.specs.declared.tree.Op.{Op}
use Rattle.md_expr_tree.specs.declared.tree.Op.TheVariants as op
use Rattle.md_expr_tree.specs.declared.tree.Subject.{Subject}
use Rattle.md_expr_tree.specs.declared.tree.Subject.TheVariants as subject
use Rattle.md_expr_tree.specs.declared.tree.Test.{Test}
use Rattle.md_expr_tree.specs.declared.tree.Test.TheVariants as test
use Rattle.md_expr_tree.specs.declared.tree.Expr.{Expr}
use Rattle.md_expr_tree.specs.declared.tree.Expr.TheOpen.{Expr-F}
use Rattle.md_expr_tree.specs.declared.tree.Expr.TheFolds.{fold-Expr}
use Rattle.md_expr_print.specs.Literals.{join, literal_text}

-- a name is given as its bytes
abbrev pub subject_text : Subject → List ℕ
subject_text (subject.Named name) = chars name
subject_text subject.Some = codes "*"

abbrev pub op_text : Op → List ℕ
op_text op.Equal = codes "=="
op_text op.NotEqual = codes "!="
op_text op.Less = codes "<"
op_text op.Greater = codes ">"
op_text op.LessEqual = codes "<="
op_text op.GreaterEqual = codes ">="

abbrev pub test_text : Test → List ℕ
test_text (test.Compare s o v) = subject_text s ++ (codes " " ++ (op_text o ++ (codes " " ++ literal_text v)))
test_text (test.Range name least greatest) = codes "InRange(" ++ (chars name ++ (codes ", " ++ (literal_text least ++ (codes ", " ++ (literal_text greatest ++ codes ")")))))

-- what a spelling is: a unit, a chain of `&&` or a chain of `||`
pub data Shape : Type 0 where
  unit : Shape
  all : Shape
  any : Shape

abbrev pub Spelling : Type 0
Spelling = Shape × List ℕ

abbrev pub in_group : List ℕ → List ℕ
in_group text = codes "(" ++ (text ++ codes ")")

-- a member of a chain of `&&`
abbrev pub in_all : Spelling → List ℕ
in_all (unit, text) = text
in_all (all, text) = in_group text
in_all (any, text) = in_group text

-- a member of a chain of `||`
abbrev pub in_any : Spelling → List ℕ
in_any (unit, text) = text
in_any (all, text) = text
in_any (any, text) = in_group text

-- from the spellings of the operands
abbrev pub spell_step : Expr-F Spelling → Spelling
spell_step (Expr-F.Test t) = (unit, test_text t)
spell_step (Expr-F.Not x) = (unit, codes "!" ++ in_group x.1)
spell_step (Expr-F.All xs) = (all, join (codes " && ") (map in_all xs))
spell_step (Expr-F.Any xs) = (any, join (codes " || ") (map in_any xs))

abbrev pub spelling : Expr → Spelling
spelling = fold-Expr Spelling spell_step

-- the canonical spelling
abbrev pub spell : Expr → List ℕ
spell e = (spelling e).1
