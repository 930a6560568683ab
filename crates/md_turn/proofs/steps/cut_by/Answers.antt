use Rattle.std.proofs.Common.{arith, ◌<◌, ◌-◌, ◌≤◌, subst, sym}
use Rattle.md_turn.specs.Turns.{made}
use Rattle.md_turn.proofs.Moves.{splits}
use Rattle.md_turn.proofs.steps.cut_by.Goals as goal

pub split_seat-requires : goal.split_seat-requires
split_seat-requires g c = (c.requires.table.0, subst (λ n. 0 < n) (sym c.requires.table.1) (omega arith), splits _ _ _ _ _ _ _ c.requires.rests.0 c.requires.rests.1 (subst (λ n. n ≤ c.args.seat.now.me.0.share - made c.args.seat.now.me.0) c.requires.amount c.requires.room))
