use Rattle.std.proofs.Common.{ap}
use Rattle.md_turn.proofs.Passing.{ended_one}
use Rattle.md_turn.proofs.turn.Turn.close_one.Goals as goal

pub returns : goal.returns
returns g c = ended_one g.C.Core.state _ _ _ _ _ c.args.pass c.close_by-core.result c.close_by-core.ensures (ap (λ l. l.opening) c.self.view_is) c.into_seat.ensures.2 c.pass.view_is c.own_are_seen.ensures.rises
