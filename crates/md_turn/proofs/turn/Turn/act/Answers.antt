use Rattle.std.proofs.Common.{sym, subst}
use Rattle.md_turn.specs.Passes.{IsPass}
use Rattle.md_turn.proofs.Passing.{may_act, acted_pass}
use Rattle.md_turn.proofs.turn.Turn.act.Goals as goal

pub invariant_of-pass : goal.invariant_of-pass
invariant_of-pass g c =
    let e = c.act_by-outcome.ensures in
    acted_pass _ _ _ _ _ _ _ _ _
    (subst (λ b. IsPass b.views c.pass.inside.share c.pass.inside.made) (sym c.replace.ensures.value) c.pass.invariant)
    c.into_seat-seat.ensures.2 c.into_badge.ensures.2
    (may_act _ _ _ _ _ c.pass.invariant c.pass.view_is c.requires.room)
    e.rests.0.0 e.rests.0.1 e.rests.1 e.acted e.refused
