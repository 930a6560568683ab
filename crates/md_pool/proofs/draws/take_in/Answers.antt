use Rattle.std.proofs.Common.{arith, ◌<◌, subst, sym}
use Rattle.md_pool.proofs.Moves.{joins}
use Rattle.md_pool.proofs.draws.take_in.Goals as goal

pub join_seat-requires : goal.join_seat-requires
join_seat-requires c = (c.requires.table.0, c.requires.other.0, c.requires.other.1, subst (λ n. 0 < n) (sym c.requires.table.1) (omega arith), joins _ _ _ _)
