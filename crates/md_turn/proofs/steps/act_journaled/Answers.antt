use Rattle.std.proofs.Common.{◌≡◌, ◌∙◌, ◌∷◌, ap, sym, Some, List, [], ℕ}
use Rattle.atomic_table.specs.Table.{rest, Me}
use Rattle.md_turn.specs.declared.rule.View.{View}
use Rattle.md_turn.proofs.Slots.{carried_follows, journaled_acted, journaled_refused}
use Rattle.md_turn.proofs.steps.act_journaled.Goals as goal

pub exchange-requires : goal.exchange-requires
exchange-requires g c =
    let h = c.requires.carries in
    (c.requires.table, (Some h.0, h.1 ∙ ap (λ l. (0, Some h.0) ∷ rest l) (sym h.1)))

-- after an exchange out and another back in
put_in : {S : Type 0} (a b e : Me S View) (x y z : S) → a.1 ≡ (0, x) ∷ [] → b ≡ (a.0, (0, y) ∷ rest a.1) → e ≡ (b.0, (0, z) ∷ rest b.1) → e.1 ≡ (0, z) ∷ []
put_in {S} a b e x y z p q r = ap (λ (m : Me S View). m.1) r ∙ ap (λ (m : Me S View). (0, z) ∷ rest m.1) q ∙ ap (λ (l : List (ℕ × S)). (0, z) ∷ rest l) p

pub returns-clause-acted : goal.returns-clause-acted
returns-clause-acted g c =
    let e = c.act-outcome.ensures in
    let f = carried_follows _ _ _ _ _ _ c.requires.carries c.exchange.ensures.2 c.unwrap-journaled.ensures in
    journaled_acted _ _ _ c.unwrap-journaled.result _ _ _ _ f (put_in _ _ _ _ _ _ c.requires.carries.1 c.exchange.ensures.3 c.exchange-2.ensures.3) e.place e.reply e.journal e.state

pub returns-clause-refused : goal.returns-clause-refused
returns-clause-refused g c =
    let e = c.act-outcome.ensures in
    let f = carried_follows _ _ _ _ _ _ c.requires.carries c.exchange.ensures.2 c.unwrap-journaled.ensures in
    journaled_refused _ _ _ c.unwrap-journaled.result _ _ _ _ f (put_in _ _ _ _ _ _ c.requires.carries.1 c.exchange.ensures.3 c.exchange-2.ensures.3) e.handed_back e.no_entry e.unchanged
