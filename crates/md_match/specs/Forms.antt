-- The forms of time of an expression, and the first that is out of range.
use Rattle.std.specs.Prelude.{ℕ, ◌+◌, ◌-◌, ◌^◌, min, List, [], ◌∷◌, ◌++◌, Option, Some, None, is_none, ℤ, if◌then◌else◌}
use Rattle.md_time.specs.declared.form.Form.{Form}
use Rattle.md_time.specs.Moments.{moment_of}
use Rattle.md_expr_tree.specs.declared.tree.Literal.{Literal}
use Rattle.md_expr_tree.specs.declared.tree.Literal.TheVariants as literal
use Rattle.md_expr_tree.specs.declared.tree.Test.{Test}
use Rattle.md_expr_tree.specs.declared.tree.Test.TheVariants as test
use Rattle.md_expr_tree.specs.declared.tree.Expr.{Expr}
use Rattle.md_expr_tree.specs.declared.tree.Expr.TheOpen.{Expr-F}
use Rattle.md_expr_tree.specs.declared.tree.Expr.TheFolds.{fold-Expr}
use Rattle.md_match.specs.declared.forms.Searched.{Searched}
use Rattle.md_match.specs.declared.forms.Searched.TheVariants.{Out, InRange}

abbrev pub forms_of_literal : Literal → List Form
forms_of_literal (literal.Time form) = form ∷ []
forms_of_literal _ = []

abbrev pub forms_of_test : Test → List Form
forms_of_test (test.Compare s o l) = forms_of_literal l
forms_of_test (test.Range name least greatest) = forms_of_literal least ++ forms_of_literal greatest

-- the lists one after another
abbrev pub joined : List (List Form) → List Form
joined [] = []
joined (fs ∷ fss) = fs ++ joined fss

-- from those of the operands
abbrev pub forms_step : Expr-F (List Form) → List Form
forms_step (Expr-F.Test t) = forms_of_test t
forms_step (Expr-F.Not fs) = fs
forms_step (Expr-F.All fss) = joined fss
forms_step (Expr-F.Any fss) = joined fss

-- the forms of time of an expression, in reading order
unfoldable pub forms : Expr → List Form
forms = fold-Expr (List Form) forms_step

-- the number of the first form whose moment is out of range, where the first form has the number n
abbrev pub first_out_from : ℕ → ℤ → ℤ → List Form → Option ℕ
first_out_from n now offset [] = None
first_out_from n now offset (form ∷ fs) = if is_none (moment_of form now offset) then Some n else first_out_from (n + 1) now offset fs

-- the number from 1, in reading order, of the first form whose moment is out of range
abbrev pub first_out_of_range : ℤ → ℤ → Expr → Option ℕ
first_out_of_range now offset e = first_out_from 1 now offset (forms e)

-- a number, or the greatest one that is reported
abbrev pub capped : ℕ → ℕ
capped n = min n (2 ^ 32 - 1)

-- how far a search of these forms comes, after so many that are in range
abbrev pub searched : ℤ → ℤ → ℕ → List Form → Searched
searched now offset seen [] = InRange seen
searched now offset seen (form ∷ fs) = if is_none (moment_of form now offset) then Out (capped (seen + 1)) else searched now offset (capped (seen + 1)) fs
