use Rattle.std.proofs.Common.{◌∙◌, ◌∷◌, [], sym, ap}
use Rattle.md_turn.proofs.Passing.{joined_pass, joined_own}
use Rattle.md_turn.proofs.turn.Turn.join.Goals as goal

pub invariant_of-pass : goal.invariant_of-pass
invariant_of-pass g c =
    let is = ap (λ b. b.views) (sym c.replace.ensures.value) ∙ c.into_seat-seat.ensures.2 in
    joined_pass _ _ _ _ _ _ _ c.into_seat-seat.result.me.0 c.into_seat.result.me.0 c.pass.invariant c.other.invariant is c.into_seat.ensures.2 (c.into_badge.ensures.2 ∙ ap (λ m. m.0 ∷ []) c.join_by.ensures.both) c.join_by.ensures.prefix

pub returns-clause-own : goal.returns-clause-own
returns-clause-own g c =
    let is = ap (λ b. b.views) (sym c.replace.ensures.value) ∙ c.into_seat-seat.ensures.2 in
    joined_own _ _ _ _ _ _ _ _ _ c.into_seat-seat.result.me.0 c.into_seat.result.me.0 c.args.pass.now c.args.other c.pass.invariant c.other.invariant is c.into_seat.ensures.2 (c.into_badge.ensures.2 ∙ ap (λ m. m.0 ∷ []) c.join_by.ensures.both) c.join_by.ensures.prefix c.pass.view_is c.other.view_is
