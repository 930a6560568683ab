use Rattle.std.proofs.Common.{◌≡◌, ℕ, insert, sym, ap, subst, ◌∙◌, arith}
use Rattle.std.specs.List.{remove}
use Rattle.md_store.specs.Pins.{Ascend, with_pin, without_pin}
use Rattle.md_store.proofs.Pinning.{below, inserted, removed, pinned_within, ascend_with, ascend_without}
use Rattle.md_store.proofs.pins.move_pin.Goals as goal

pub remove-requires : goal.remove-requires
remove-requires c =
    let pins = c.args.pins.now.items in
    let v = c.args.from in
    let place : c.before-place.result ≡ below pins v = c.before-place.ensures.value ∙ ap (λ xs. below xs v) c.deref.ensures.value in
    let within = pinned_within pins v c.requires.ascend c.requires.pinned in
    omega (arith, c.args.pins.now.ok.0)

pub before-place-requires-2 : goal.before-place-requires-2
before-place-requires-2 c =
    let pins = c.args.pins.now.items in
    let v = c.args.from in
    let place : c.before-place.result ≡ below pins v = c.before-place.ensures.value ∙ ap (λ xs. below xs v) c.deref.ensures.value in
    let left : c.remove.new.self.items ≡ without_pin pins v = c.remove.ensures.items ∙ ap (λ (n : ℕ). remove pins n) place ∙ removed pins v c.requires.ascend c.requires.pinned in
    subst Ascend (sym (c.deref-2.ensures.value ∙ left)) (ascend_without v pins c.requires.ascend)

pub returns-clause-pins : goal.returns-clause-pins
returns-clause-pins c =
    let pins = c.args.pins.now.items in
    let v = c.args.from in
    let place : c.before-place.result ≡ below pins v = c.before-place.ensures.value ∙ ap (λ xs. below xs v) c.deref.ensures.value in
    let left : c.remove.new.self.items ≡ without_pin pins v = c.remove.ensures.items ∙ ap (λ (n : ℕ). remove pins n) place ∙ removed pins v c.requires.ascend c.requires.pinned in
    let next : c.before-place-2.result ≡ below (without_pin pins v) c.args.to = c.before-place-2.ensures.value ∙ ap (λ xs. below xs c.args.to) (c.deref-2.ensures.value ∙ left) in
    c.in-Ok.ensures.items ∙ ap (λ xs. insert xs c.before-place-2.result c.args.to) left
    ∙ ap (λ (n : ℕ). insert (without_pin pins v) n c.args.to) next ∙ inserted (without_pin pins v) c.args.to

pub returns-clause-ascend : goal.returns-clause-ascend
returns-clause-ascend c =
    let pins = c.args.pins.now.items in
    rw (returns-clause-pins c) (ascend_with c.args.to (without_pin pins c.args.from) (ascend_without c.args.from pins c.requires.ascend))
