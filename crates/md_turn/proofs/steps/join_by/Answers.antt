use Rattle.std.proofs.Common.{arith, ◌<◌, ◌∙◌, subst, sym}
use mathlib.Core.Option.{none}
use Rattle.atomic_table.specs.Table.{step}
use Rattle.md_turn.proofs.Moves.{joins, compares}
use Rattle.md_turn.proofs.steps.join_by.Goals as goal

pub join_seat-requires : goal.join_seat-requires
join_seat-requires g c =
    let r = c.requires.rests in
    (c.requires.table.0, c.requires.table.1, r.1.2, subst (λ n. 0 < n) (sym c.requires.table.2) (omega arith), joins _ _ _ _ _ _ _ _ r.0.0 r.0.1 r.1.0 r.1.1)

pub load-requires : goal.load-requires
load-requires g c = (c.join_seat.ensures.0 ∙ c.requires.table.0, subst (λ n. 1 < n) (sym c.requires.table.2) (omega arith), compares _ _ _ _ _ _ _ (step 0 0 0 0 none))
