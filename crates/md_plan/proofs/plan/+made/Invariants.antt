use Rattle.std.proofs.Common.{◌≡◌, ℕ, map, take}
use Rattle.md_match.specs.Candidates.{RowSet, candidate}
use Rattle.md_plan.specs.Plans.{plan_set}
use Rattle.md_plan.proofs.plan.+made.Given as goal

abbrev pub invariant-all_of-loop-expr : goal.invariant-all_of-loop-expr
invariant-all_of-loop-expr l = (size : RowSet → ℕ) → map (plan_set size) l.all ≡ map (candidate size l.local.moment l.local.offset) (take l.expr-index l.list)
