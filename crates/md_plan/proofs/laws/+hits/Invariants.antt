use Rattle.std.proofs.Common.{ℕ, drop}
use Rattle.std.specs.Prelude.{ℤ}
use Rattle.md_world.specs.declared.Row.{Row}
use Rattle.md_match.specs.Candidates.{RowSet}
use Rattle.md_plan.specs.Hits.{AreHits}
use Rattle.md_plan.proofs.laws.+hits.Given as goal

-- where each of the rest is a hit, all are
abbrev pub invariant-each_among-loop-expr : goal.invariant-each_among-loop-expr
invariant-each_among-loop-expr l = (size : RowSet → ℕ) (now offset : ℤ) (row : Row) → AreHits size now offset row (drop l.expr-index l.list) → AreHits size now offset row l.list
