use Rattle.std.proofs.Common.{◌≡◌, ℕ, suc, ◌<◌, Bool, false, List, ◌∷◌, length, drop, get_or, sym, ap, ◌∙◌, arith, drop-cons}
use Rattle.md_expr_tree.specs.declared.token.Item.{Item}
use Rattle.md_expr_parse.specs.Survey.{accepts}
use Rattle.md_expr_parse.proofs.survey.measure.Goals as goal

refused : (f : List Item → Bool) (xs : List Item) (i : ℕ) (x : Item) (r : Bool) → i < length xs → x ≡ get_or xs i x → f (drop i xs) ≡ r → ((is : List Item) → f (x ∷ is) ≡ false) → r ≡ false
refused f xs i x r h is same bad = sym same ∙ ap f (drop-cons xs i x h ∙ ap (λ y. y ∷ drop (suc i) xs) (sym is)) ∙ bad (drop (suc i) xs)

pub returns-in-None-clause-none : goal.returns-in-None-clause-none
returns-in-None-clause-none c = let h : c.loop-item.item-index < length c.args.items.now = omega arith in refused (accepts c.loop-item.place.ready c.loop-item.place.groups) _ _ _ _ h c.item-item.is c.loop-item.invariant.same c.in-None.ensures
