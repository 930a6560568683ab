use Rattle.std.proofs.Common.{◌≡◌, ℕ, ap, ◌∙◌, arith}
use Rattle.std.specs.List.{remove}
use Rattle.md_store.proofs.Pinning.{below, removed, pinned_within, ascend_without}
use Rattle.md_store.proofs.pins.unpin.Goals as goal

pub remove-requires : goal.remove-requires
remove-requires c =
    let pins = c.args.pins.now.items in
    let v = c.args.version in
    let place : c.before-place.result ≡ below pins v = c.before-place.ensures.value ∙ ap (λ xs. below xs v) c.deref.ensures.value in
    let within = pinned_within pins v c.requires.ascend c.requires.pinned in
    omega (arith, c.args.pins.now.ok.0)

pub returns-clause-pins : goal.returns-clause-pins
returns-clause-pins c =
    let pins = c.args.pins.now.items in
    let v = c.args.version in
    let place : c.before-place.result ≡ below pins v = c.before-place.ensures.value ∙ ap (λ xs. below xs v) c.deref.ensures.value in
    c.remove.ensures.items ∙ ap (λ (n : ℕ). remove pins n) place ∙ removed pins v c.requires.ascend c.requires.pinned

pub returns-clause-ascend : goal.returns-clause-ascend
returns-clause-ascend c = rw (returns-clause-pins c) (ascend_without c.args.version c.args.pins.now.items c.requires.ascend)
