use Rattle.std.proofs.Common.{◌≡◌, ◌≤◌, take, filter, length, not}
use Rattle.md_world.specs.Tables.{has_path}
use Rattle.md_query.specs.Rows.{rows_of}
use Rattle.md_query.proofs.tables.count_new.Given as goal

abbrev pub invariant-loop-hit : goal.invariant-loop-hit
invariant-loop-hit l = record { value : l.count ≡ length (filter (λ row. not (has_path (rows_of l.old) row.path)) (rows_of (take l.hit-index l.new))); bound : l.count ≤ l.hit-index }
