use Rattle.std.proofs.Common.{rules, subst, sym}
use Rattle.std.specs.Option.{IsSome}
use Rattle.md_machine.specs.Steps.{step}
use Rattle.md_turn.specs.Turns.{Closes}
use Rattle.md_turn.specs.Acts.{journal_of, state_of}
use Rattle.md_turn.proofs.Moves.{closes}
use Rattle.md_turn.proofs.steps.close_by.Goals as goal

pub unwrap-journaled-requires : goal.unwrap-journaled-requires
unwrap-journaled-requires g c =
    let f = c.close_with-closed.ensures.values.2 in
    let k = closes step journal_of (state_of g.C.Core.state) (g.C.Core.state c.args.turns.shared.key.value) _ _ f.0 _ c.requires.whole c.requires.rests.0 c.requires.rests.1 f.1 f.4 _ c.take.ensures.value in
    subst IsSome (sym k.value_is) (search rules)

pub returns : goal.returns
returns g c =
    let f = c.close_with-closed.ensures.values.2 in
    let k = closes step journal_of (state_of g.C.Core.state) (g.C.Core.state c.args.turns.shared.key.value) _ _ f.0 _ c.requires.whole c.requires.rests.0 c.requires.rests.1 f.1 f.4 _ c.take.ensures.value in
    subst (Closes step journal_of (state_of g.C.Core.state) (g.C.Core.state c.args.turns.shared.key.value) c.args.seat.me.0) c.unwrap-journaled.ensures k
