use Rattle.std.proofs.Common.{◌≡◌, ◌≤◌, take, filter, length}
use Rattle.md_world.specs.Tables.{at}
use Rattle.md_world.specs.Differences.{was_other}
use Rattle.md_query.specs.Rows.{rows_of}
use Rattle.md_query.proofs.tables.count_changed.Given as goal

abbrev pub invariant-loop-hit : goal.invariant-loop-hit
invariant-loop-hit l = record { value : l.count ≡ length (filter (λ row. was_other (at (rows_of l.old) row.path) row) (rows_of (take l.hit-index l.new))); bound : l.count ≤ l.hit-index }
