use Rattle.std.proofs.Common.{◌≡◌, ℕ, insert, ap, ◌∙◌}
use Rattle.md_store.proofs.Pinning.{below, inserted, ascend_with, pinned_with}
use Rattle.md_store.proofs.pins.pin.Goals as goal

pub returns-clause-ok : goal.returns-clause-ok
returns-clause-ok c =
    let pins = c.args.pins.now.items in
    let v = c.args.version in
    let place : c.before-place.result ≡ below pins v = c.before-place.ensures.value ∙ ap (λ xs. below xs v) c.deref.ensures.value in
    c.in_ok-insert.ensures.items ∙ ap (λ (n : ℕ). insert pins n v) place ∙ inserted pins v

pub returns-clause-ascend : goal.returns-clause-ascend
returns-clause-ascend c = rw (returns-clause-ok c) (ascend_with c.args.version c.args.pins.now.items c.requires)

pub returns-clause-pinned : goal.returns-clause-pinned
returns-clause-pinned c = rw (returns-clause-ok c) (pinned_with c.args.version c.args.pins.now.items)
