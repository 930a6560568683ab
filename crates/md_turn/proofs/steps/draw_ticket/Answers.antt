use Rattle.std.proofs.Common.{arith, ◌<◌, subst, sym}
use mathlib.Core.Option.{none}
use Rattle.atomic_table.specs.Table.{step}
use Rattle.md_turn.proofs.Moves.{draws}
use Rattle.md_turn.proofs.steps.draw_ticket.Goals as goal

pub fetch_add-requires : goal.fetch_add-requires
fetch_add-requires g c = (c.requires.table.0, subst (λ n. 0 < n) (sym c.requires.table.1) (omega arith), draws _ _ _ _ _ _ _ (step 0 0 0 0 none) c.requires.rests.0 c.requires.rests.1 c.requires.room)
