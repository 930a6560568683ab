-- When attributes satisfy an expression.
use Rattle.std.specs.Prelude.{Bool, not, ◌&&◌, List, [], ◌∷◌, ◌++◌, ℤ}
use Rattle.std.specs.Option.{option_map_or}
use Rattle.std.specs.List.{list_all, list_any}
use Rattle.md_value.specs.Attrs.{Attr, get}
use Rattle.md_value.specs.declared.value.Value.{Value}
use Rattle.md_expr_tree.specs.declared.tree.Op.{Op}
use Rattle.md_expr_tree.specs.declared.tree.Op.TheVariants as op
use Rattle.md_expr_tree.specs.declared.tree.Subject.{Subject}
use Rattle.md_expr_tree.specs.declared.tree.Subject.TheVariants as subject
use Rattle.md_expr_tree.specs.declared.tree.Test.{Test}
use Rattle.md_expr_tree.specs.declared.tree.Test.TheVariants as test
use Rattle.md_expr_tree.specs.declared.tree.Expr.{Expr}
use Rattle.md_expr_tree.specs.declared.tree.Expr.TheOpen.{Expr-F}
use Rattle.md_expr_tree.specs.declared.tree.Expr.TheFolds.{fold-Expr}
use Rattle.md_match.specs.Meets.{Resolved, resolved, meets}

-- the values of all attributes
abbrev pub all_values : List Attr → List Value
all_values [] = []
all_values (attr ∷ attrs) = attr.1 ++ all_values attrs

-- the values that a subject speaks of
abbrev pub values_of : Subject → List Attr → List Value
values_of (subject.Named name) attrs = option_map_or (λ values. values) (get attrs name) []
values_of subject.Some attrs = all_values attrs

-- whether some value meets the literal; `!=` holds exactly where `==` does not
abbrev pub compares : Op → Resolved → List Value → Bool
compares op.NotEqual l values = not (list_any (λ v. meets op.Equal v l) values)
compares o l values = list_any (λ v. meets o v l) values

-- whether one value is at least the first and at most the second
abbrev pub has_between : Resolved → Resolved → List Value → Bool
has_between least greatest values = list_any (λ v. meets op.GreaterEqual v least && meets op.LessEqual v greatest) values

-- whether a comparison holds of the attributes, now and at an offset in minutes
abbrev pub holds : ℤ → ℤ → Test → List Attr → Bool
holds now offset (test.Compare s o l) attrs = compares o (resolved now offset l) (values_of s attrs)
holds now offset (test.Range name least greatest) attrs = has_between (resolved now offset least) (resolved now offset greatest) (values_of (subject.Named name) attrs)

-- from whether the operands are satisfied
abbrev pub satisfies_step : ℤ → ℤ → List Attr → Expr-F Bool → Bool
satisfies_step now offset attrs (Expr-F.Test t) = holds now offset t attrs
satisfies_step now offset attrs (Expr-F.Not is) = not is
satisfies_step now offset attrs (Expr-F.All members) = list_all (λ is. is) members
satisfies_step now offset attrs (Expr-F.Any members) = list_any (λ is. is) members

-- whether the attributes satisfy the expression, now and at an offset in minutes
unfoldable pub satisfies : ℤ → ℤ → Expr → List Attr → Bool
satisfies now offset e attrs = fold-Expr Bool (satisfies_step now offset attrs) e
