use Rattle.std.proofs.Common.{arith, ◌<◌, ◌-◌, ◌≤◌, length, subst, sym}
use Rattle.md_pool.proofs.Moves.{splits}
use Rattle.md_pool.proofs.draws.cut_off.Goals as goal

pub split_seat-requires : goal.split_seat-requires
split_seat-requires g c = (c.requires.table.0, subst (λ n. 0 < n) (sym c.requires.table.1) (omega arith), splits _ _ _ (subst (λ n. n ≤ c.args.chair.now.me.0.share - length c.args.chair.now.me.0.drawn) c.requires.amount c.requires.room))
