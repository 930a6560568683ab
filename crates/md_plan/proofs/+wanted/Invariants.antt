use Rattle.std.proofs.Common.{ℕ}
use Rattle.std.specs.Prelude.{Option}
use Rattle.md_world.specs.declared.Row.{Row}
use Rattle.md_index.specs.Indexed.{Holds}
use Rattle.md_plan.proofs.+wanted.Given as goal

-- the index has the rows that it had
abbrev pub invariant-want::want_each-loop-plan : goal.invariant-want::want_each-loop-plan
invariant-want::want_each-loop-plan l = (rows : ℕ → Option Row) → Holds l.initial.index rows → Holds l.index rows
