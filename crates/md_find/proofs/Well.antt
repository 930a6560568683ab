-- Two expressions that are well made, joined.
use Rattle.std.proofs.Common.{◌≡◌, Bool, true, [], ◌∷◌, refl, sym, ap, ◌∙◌}
use Rattle.md_expr_tree.specs.declared.tree.Expr.{Expr}
use Rattle.md_expr_tree.specs.declared.tree.Expr.TheVariants as expr
use Rattle.md_expr_tree.specs.declared.tree.Expr.TheVariants.{rolls-All}
use Rattle.md_expr_tree.specs.declared.tree.Expr.TheOpen.{Expr-F}
use Rattle.md_expr_tree.specs.declared.tree.Expr.TheFolds.{fold-Expr, fold-roll-Expr}
use Rattle.md_expr_tree.specs.WellMade.{is_chain, well_made_step, is_well_made}

chained : (e f : Expr) → is_well_made (expr.All (e ∷ f ∷ [])) ≡ is_chain (is_well_made e ∷ is_well_made f ∷ [])
unfolding is_well_made
chained e f = ap (fold-Expr Bool well_made_step) (sym (rolls-All (e ∷ f ∷ []))) ∙ fold-roll-Expr Bool well_made_step (Expr-F.All (e ∷ f ∷ []))

pub well_joined : (e f : Expr) → is_well_made e ≡ true → is_well_made f ≡ true → is_well_made (expr.All (e ∷ f ∷ [])) ≡ true
well_joined e f first second = chained e f ∙ rw (first, second) refl
