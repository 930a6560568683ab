use Rattle.std.proofs.Common.{◌≡◌, take, filter}
use Rattle.md_match.specs.Conditions.{passes}
use Rattle.md_query.specs.Rows.{rows_of}
use Rattle.md_query.proofs.tables.passing.Given as goal

abbrev pub invariant-loop-row : goal.invariant-loop-row
invariant-loop-row l = rows_of l.hits.items ≡ filter (passes l.condition) (rows_of (take l.row-index l.table))
