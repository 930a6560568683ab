use Rattle.md_turn.proofs.Passing.{ended_all}
use Rattle.md_turn.proofs.turn.Turn.close.Goals as goal

pub returns : goal.returns
returns g c = ended_all _ _ c.gather-pass.result _ _ c.gather-pass.ensures.gathered c.close_one.ensures
