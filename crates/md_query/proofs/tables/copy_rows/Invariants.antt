use Rattle.std.proofs.Common.{◌≡◌, take}
use Rattle.md_query.specs.Rows.{rows_of}
use Rattle.md_query.proofs.tables.copy_rows.Given as goal

abbrev pub invariant-loop-row : goal.invariant-loop-row
invariant-loop-row l = l.rows.items ≡ rows_of (take l.row-index l.table)
