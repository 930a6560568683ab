use Rattle.std.proofs.Common.{◌≡◌, take, map, filter}
use Rattle.md_world.specs.Tables.{at, shown}
use Rattle.md_world.specs.Differences.{was_other}
use Rattle.md_query.specs.Rows.{rows_of}
use Rattle.md_query.proofs.tables.changed.Given as goal

abbrev pub invariant-loop-hit : goal.invariant-loop-hit
invariant-loop-hit l = l.rows.items ≡ map shown (filter (λ row. was_other (at (rows_of l.old) row.path) row) (rows_of (take l.hit-index l.new)))
