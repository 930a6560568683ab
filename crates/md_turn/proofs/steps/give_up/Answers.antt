use Rattle.std.proofs.Common.{arith, ◌<◌, subst, sym}
use mathlib.Core.Option.{none}
use Rattle.atomic_table.specs.Table.{step}
use Rattle.md_turn.proofs.Moves.{refuses_as}
use Rattle.md_turn.proofs.steps.give_up.Goals as goal

pub fetch_add-requires : goal.fetch_add-requires
fetch_add-requires g c =
    let h = c.requires.unchanged.1 in (
      c.requires.table.0,
      subst (λ n. 1 < n) (sym c.requires.table.1) (omega arith),
      refuses_as _ _ _ _ _ c.requires.opening _ _ _ (step 0 0 0 0 none) h.0 c.requires.table.2 c.requires.unchanged.0 h.1 h.2,
    )
