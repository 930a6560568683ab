use Rattle.std.proofs.Common.{◌≡◌, take, map, filter, not}
use Rattle.md_world.specs.Tables.{has_path, shown}
use Rattle.md_query.specs.Rows.{rows_of}
use Rattle.md_query.proofs.tables.added.Given as goal

abbrev pub invariant-loop-hit : goal.invariant-loop-hit
invariant-loop-hit l = l.rows.items ≡ map shown (filter (λ row. not (has_path (rows_of l.old) row.path)) (rows_of (take l.hit-index l.new)))
