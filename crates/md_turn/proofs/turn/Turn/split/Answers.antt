use Rattle.std.proofs.Common.{◌∙◌, ◌∷◌, [], sym, ap, subst, ◌≤◌, ◌-◌}
use Rattle.md_turn.specs.Turns.{made}
use Rattle.md_turn.proofs.Passing.{may_cut, cut_pass}
use Rattle.md_turn.proofs.turn.Turn.split.Goals as goal

pub invariant_of-pass : goal.invariant_of-pass
invariant_of-pass g c =
    let is = ap (λ b. b.views) (sym c.replace.ensures.value) ∙ c.into_seat-seat.ensures.2 in
    cut_pass _ _ _ _ _ c.into_seat-seat.result.me.0 c.pass.invariant is (c.into_badge.ensures.2 ∙ ap (λ m. m.0 ∷ []) c.cut_by-new.ensures.old)
    (subst (λ vs. c.args.share ≤ (Rattle.md_turn.specs.Passes.view_of vs).share - made (Rattle.md_turn.specs.Passes.view_of vs)) is (may_cut _ c.pass.inside.badge.views _ _ c.pass.view_is c.requires.room))
