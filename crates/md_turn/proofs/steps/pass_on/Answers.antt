use Rattle.std.proofs.Common.{arith, ◌<◌, subst, sym}
use mathlib.Core.Option.{none}
use Rattle.atomic_table.specs.Table.{step}
use Rattle.md_turn.proofs.Moves.{leaves_as}
use Rattle.md_turn.proofs.steps.pass_on.Goals as goal

pub fetch_add-requires : goal.fetch_add-requires
fetch_add-requires g c =
    let m = c.requires.made.1 in
    let h = m.1 in (
      c.requires.table.0,
      subst (λ n. 1 < n) (sym c.requires.table.1) (omega arith),
      leaves_as _ _ _ _ _ c.requires.opening _ _ _ (step 0 0 0 0 none) h.0 m.0 c.requires.table.2 c.requires.made.0 h.1 h.2 m.2 m.3,
    )

pub returns-clause-left : goal.returns-clause-left
returns-clause-left g c e h = c.fetch_add.ensures.2 h.0 e h.1 h.2.0
