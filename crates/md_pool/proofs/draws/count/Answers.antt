use Rattle.std.proofs.Common.{arith, ◌<◌, subst, sym}
use mathlib.Core.Option.{none}
use Rattle.atomic_table.specs.Table.{step}
use Rattle.md_pool.proofs.Moves.{closes}
use Rattle.md_pool.proofs.draws.count.Goals as goal

pub load-requires : goal.load-requires
load-requires c = (c.requires.table.0, subst (λ n. 0 < n) (sym c.requires.table.1) (omega arith), closes _ _ _ (step 0 0 0 0 none))
