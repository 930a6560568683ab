use Rattle.std.proofs.Common.{◌≡◌, take, map, filter, not}
use Rattle.md_world.specs.Tables.{has_path}
use Rattle.md_query.specs.Rows.{rows_of}
use Rattle.md_query.proofs.tables.removed.Given as goal

abbrev pub invariant-loop-hit : goal.invariant-loop-hit
invariant-loop-hit l = l.paths.items ≡ map (λ row. row.path) (filter (λ row. not (has_path (rows_of l.new) row.path)) (rows_of (take l.hit-index l.old)))
