use Rattle.std.proofs.Common.{arith, ◌<◌, ◌∙◌, ap, subst, sym}
use mathlib.Core.Option.{none}
use Rattle.atomic_table.specs.Table.{step}
use Rattle.md_turn.proofs.Moves.{looks_as, looked_mine}
use Rattle.md_turn.proofs.steps.await_turn.Goals as goal

pub load-serving-requires : goal.load-serving-requires
load-serving-requires g c =
    let inv = c.loop.invariant in (
      inv.1 ∙ c.requires.table.0,
      subst (λ n. 1 < n) (sym c.requires.table.1) (omega arith),
      looks_as _ _ _ _ _ c.requires.opening _ _ _ (step 0 0 0 0 none) (ap (λ m. m.0.waits) inv.2 ∙ c.requires.waits.0) (ap (λ m. m.0.holds) inv.2 ∙ c.requires.waits.1),
    )

pub returns-then-serving-ticket-clause-taken : goal.returns-then-serving-ticket-clause-taken
returns-then-serving-ticket-clause-taken g c = let i = c.if-serving-ticket.true in looked_mine _ _ _ _ _ _ _ _ _ i c.requires.waits.2 c.loop.invariant.2 c.load-serving.ensures.2
