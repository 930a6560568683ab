use Rattle.std.proofs.Common.{sym, ap}
use Rattle.md_turn.proofs.Moves.{opens_pushed}
use Rattle.md_turn.proofs.turn.Turn.new.Goals as goal

pub new-requires-2 : goal.new-requires-2
new-requires-2 g c =
    opens_pushed _ _ _ _ _ _ record { alloc = c.args.alloc; core = c.args.core; journal = c.new.result } c.in_ok-slots.ensures.items c.push_reserved.ensures.items c.new.ensures.items (ap g.C.Core.state (sym c.of-key.ensures))
