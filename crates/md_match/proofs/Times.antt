-- The forms of time of an expression, level by level.
use Rattle.std.proofs.Common.{◌≡◌, ℕ, ℤ, ◌+◌, List, [], ◌∷◌, ◌++◌, map, refl, sym, ap, ◌∙◌, arith}
use Rattle.std.specs.Prelude.{Option, Some, None, is_none}
use Rattle.std.specs.Option.{option_map}
use Rattle.md_time.specs.Moments.{moment_of}
use Rattle.md_world.proofs.Lookups.{by_test}
use Rattle.md_match.specs.declared.forms.Searched.{Searched}
use Rattle.md_match.specs.declared.forms.Searched.TheVariants.{Out, InRange}
use Rattle.md_time.specs.declared.form.Form.{Form}
use Rattle.md_expr_tree.specs.declared.tree.Test.{Test}
use Rattle.md_expr_tree.specs.declared.tree.Expr.{Expr}
use Rattle.md_expr_tree.specs.declared.tree.Expr.TheVariants as expr
use Rattle.md_expr_tree.specs.declared.tree.Expr.TheOpen.{Expr-F}
use Rattle.md_expr_tree.specs.declared.tree.Expr.TheFolds.{fold-Expr, fold-roll-Expr}
use Rattle.md_match.specs.Forms.{forms_of_test, joined, forms_step, forms, first_out_from, first_out_of_range, capped, searched}

pub forms-Test : (t : Test) → forms (expr.Test t) ≡ forms_of_test t
unfolding forms
forms-Test t = ap (fold-Expr (List Form) forms_step) (sym (expr.rolls-Test t)) ∙ fold-roll-Expr (List Form) forms_step (Expr-F.Test t)

pub forms-Not : (e : Expr) → forms (expr.Not e) ≡ forms e
unfolding forms
forms-Not e = ap (fold-Expr (List Form) forms_step) (sym (expr.rolls-Not e)) ∙ fold-roll-Expr (List Form) forms_step (Expr-F.Not e)

pub forms-All : (es : List Expr) → forms (expr.All es) ≡ joined (map forms es)
unfolding forms
forms-All es = ap (fold-Expr (List Form) forms_step) (sym (expr.rolls-All es)) ∙ fold-roll-Expr (List Form) forms_step (Expr-F.All es)

pub forms-Any : (es : List Expr) → forms (expr.Any es) ≡ joined (map forms es)
unfolding forms
forms-Any es = ap (fold-Expr (List Form) forms_step) (sym (expr.rolls-Any es)) ∙ fold-roll-Expr (List Form) forms_step (Expr-F.Any es)

-- a search that goes on with more forms
abbrev pub go_on : ℤ → ℤ → Searched → List Form → Searched
go_on now offset (Out n) fs = Out n
go_on now offset (InRange seen) fs = searched now offset seen fs

module _ (now offset : ℤ) where
  pub search_append : (seen : ℕ) (fs gs : List Form) → searched now offset seen (fs ++ gs) ≡ go_on now offset (searched now offset seen fs) gs
  search_append seen [] gs = refl
  search_append seen (f ∷ fs) gs =
      by_test (is_none (moment_of f now offset)) (λ e. rw e refl) (λ e. rw e (search_append (capped (seen + 1)) fs gs))

  -- the number that a search tells
  abbrev pub known : Searched → Option ℕ
  known (Out n) = Some n
  known (InRange seen) = None

  known_first : (n : ℕ) (fs : List Form) → known (searched now offset (capped n) fs) ≡ option_map capped (first_out_from (n + 1) now offset fs)
  known_first n [] = refl
  known_first n (f ∷ fs) =
      let once : capped (capped n + 1) ≡ capped (n + 1) = omega arith in
      by_test (is_none (moment_of f now offset)) (λ e. rw (e, once) refl) (λ e. rw (e, once) (known_first (n + 1) fs))

  pub search_first : (e : Expr) → known (searched now offset 0 (forms e)) ≡ option_map capped (first_out_of_range now offset e)
  search_first e = known_first 0 (forms e)
