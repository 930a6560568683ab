-- Expressions and what is made ready of them, level by level.
use Rattle.std.proofs.Common.{◌≡◌, Bool, List, [], ◌∷◌, map, not, refl, sym, ap, ◌∙◌}
use Rattle.std.specs.Prelude.{ℤ}
use Rattle.std.specs.List.{list_all, list_any}
use Rattle.std.proofs.lemmas.List.Folds.{list_all-map}
use Rattle.md_value.specs.Attrs.{Attr}
use Rattle.md_expr_tree.specs.declared.tree.Test.{Test}
use Rattle.md_expr_tree.specs.declared.tree.Expr.{Expr}
use Rattle.md_expr_tree.specs.declared.tree.Expr.TheVariants as expr
use Rattle.md_expr_tree.specs.declared.tree.Expr.TheOpen.{Expr-F}
use Rattle.md_expr_tree.specs.declared.tree.Expr.TheFolds.{fold-Expr, fold-roll-Expr}
use Rattle.md_match.specs.Satisfies.{holds, satisfies_step, satisfies}
use Rattle.md_match.specs.Ready.{check_holds, ready_step, is_satisfied}
use Rattle.md_match.specs.declared.check.Check.{Check}
use Rattle.md_match.specs.declared.ready.Ready.{Ready}
use Rattle.md_match.specs.declared.ready.Ready.TheVariants as ready
use Rattle.md_match.specs.declared.ready.Ready.TheOpen.{Ready-F}
use Rattle.md_match.specs.declared.ready.Ready.TheFolds.{fold-Ready, fold-roll-Ready}

pub satisfies-Test : (now offset : ℤ) (attrs : List Attr) (t : Test) → satisfies now offset (expr.Test t) attrs ≡ holds now offset t attrs
unfolding satisfies
satisfies-Test now offset attrs t = ap (fold-Expr Bool (satisfies_step now offset attrs)) (sym (expr.rolls-Test t)) ∙ fold-roll-Expr Bool (satisfies_step now offset attrs) (Expr-F.Test t)

pub satisfies-Not : (now offset : ℤ) (attrs : List Attr) (e : Expr) → satisfies now offset (expr.Not e) attrs ≡ not (satisfies now offset e attrs)
unfolding satisfies
satisfies-Not now offset attrs e = ap (fold-Expr Bool (satisfies_step now offset attrs)) (sym (expr.rolls-Not e)) ∙ fold-roll-Expr Bool (satisfies_step now offset attrs) (Expr-F.Not e)

pub satisfies-All : (now offset : ℤ) (attrs : List Attr) (es : List Expr) → satisfies now offset (expr.All es) attrs ≡ list_all (λ is. is) (map (λ e. satisfies now offset e attrs) es)
unfolding satisfies
satisfies-All now offset attrs es = ap (fold-Expr Bool (satisfies_step now offset attrs)) (sym (expr.rolls-All es)) ∙ fold-roll-Expr Bool (satisfies_step now offset attrs) (Expr-F.All es)

pub satisfies-Any : (now offset : ℤ) (attrs : List Attr) (es : List Expr) → satisfies now offset (expr.Any es) attrs ≡ list_any (λ is. is) (map (λ e. satisfies now offset e attrs) es)
unfolding satisfies
satisfies-Any now offset attrs es = ap (fold-Expr Bool (satisfies_step now offset attrs)) (sym (expr.rolls-Any es)) ∙ fold-roll-Expr Bool (satisfies_step now offset attrs) (Expr-F.Any es)

pub is_satisfied-Check : (attrs : List Attr) (c : Check) → is_satisfied (ready.Check c) attrs ≡ check_holds c attrs
unfolding is_satisfied
is_satisfied-Check attrs c = ap (fold-Ready Bool (ready_step attrs)) (sym (ready.rolls-Check c)) ∙ fold-roll-Ready Bool (ready_step attrs) (Ready-F.Check c)

pub is_satisfied-Not : (attrs : List Attr) (r : Ready) → is_satisfied (ready.Not r) attrs ≡ not (is_satisfied r attrs)
unfolding is_satisfied
is_satisfied-Not attrs r = ap (fold-Ready Bool (ready_step attrs)) (sym (ready.rolls-Not r)) ∙ fold-roll-Ready Bool (ready_step attrs) (Ready-F.Not r)

pub is_satisfied-All : (attrs : List Attr) (rs : List Ready) → is_satisfied (ready.All rs) attrs ≡ list_all (λ is. is) (map (λ r. is_satisfied r attrs) rs)
unfolding is_satisfied
is_satisfied-All attrs rs = ap (fold-Ready Bool (ready_step attrs)) (sym (ready.rolls-All rs)) ∙ fold-roll-Ready Bool (ready_step attrs) (Ready-F.All rs)

pub is_satisfied-Any : (attrs : List Attr) (rs : List Ready) → is_satisfied (ready.Any rs) attrs ≡ list_any (λ is. is) (map (λ r. is_satisfied r attrs) rs)
unfolding is_satisfied
is_satisfied-Any attrs rs = ap (fold-Ready Bool (ready_step attrs)) (sym (ready.rolls-Any rs)) ∙ fold-roll-Ready Bool (ready_step attrs) (Ready-F.Any rs)

pub is_satisfied-every : (attrs : List Attr) (rs : List Ready) → is_satisfied (ready.All rs) attrs ≡ list_all (λ r. is_satisfied r attrs) rs
is_satisfied-every attrs rs = is_satisfied-All attrs rs ∙ list_all-map (λ is. is) (λ r. is_satisfied r attrs) rs

list_any-map : (f : Ready → Bool) (rs : List Ready) → list_any (λ is. is) (map f rs) ≡ list_any f rs
list_any-map f [] = refl
list_any-map f (r ∷ rs) = rw (list_any-map f rs) refl

pub is_satisfied-some : (attrs : List Attr) (rs : List Ready) → is_satisfied (ready.Any rs) attrs ≡ list_any (λ r. is_satisfied r attrs) rs
is_satisfied-some attrs rs = is_satisfied-Any attrs rs ∙ list_any-map (λ r. is_satisfied r attrs) rs
