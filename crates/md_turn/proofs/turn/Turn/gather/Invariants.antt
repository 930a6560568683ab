use Rattle.std.proofs.Common.{◌≡◌, ◌++◌, List, All}
use Rattle.md_turn.specs.Passes.{Known, Gathered}
use Rattle.md_turn.proofs.turn.Turn.gather.Given as goal

abbrev pub invariant-loop-other : goal.invariant-loop-other
invariant-loop-other g l =
    (l.pass.id ≡ l.self.id) × All (λ (p : Known). p.id ≡ l.self.id) l.passes.items
    × ((taken : List Known) × (l.fn.passes.items ≡ l.passes.items ++ taken) × Gathered taken l.pass)

abbrev pub decreases-loop-other : goal.decreases-loop-other
decreases-loop-other g l = goal.left-loop-other g l
