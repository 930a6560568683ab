use Rattle.std.proofs.Common.{rules, ◌≡◌, ◌++◌, ◌∷◌, [], sym, ap, subst, ◌∙◌}
use Rattle.md_machine.specs.States.{Query}
use Rattle.md_store.specs.Pins.{with_pin}
use Rattle.md_store.specs.Stores.{Stored}
use Rattle.md_hub.specs.Pinned.{ArePinned}
use Rattle.md_hub.proofs.Pinning.{pinned_more}
use Rattle.md_hub.proofs.asks.create.Goals as goal

pub returns-clause-pinned : goal.returns-clause-pinned
returns-clause-pinned c =
    let pins = c.args.store.now.pins in
    let qs = c.args.queries.now.items in
    let q = c.in_ok-query.query in
    let base : q.base ≡ c.version-newest.result = ap (λ (x : Query). x.base) c.in_ok-query.ensures in
    let new : c.push_reserved.new.self.items ≡ qs ++ q ∷ [] = search rules in
    let pinned : c.pin.new.self.pins ≡ with_pin pins q.base = ap (λ (s : Stored). s.pins) c.in_ok-pin.ensures.ok ∙ ap (with_pin pins) (sym base) in
    subst (λ ps. ArePinned ps c.push_reserved.new.self.items) (sym pinned) (subst (ArePinned (with_pin pins q.base)) (sym new) (pinned_more pins qs c.requires q))
