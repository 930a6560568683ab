use Rattle.std.proofs.Common.{◌≡◌, take, map}
use Rattle.md_world.specs.Tables.{shown}
use Rattle.md_query.specs.Rows.{rows_of}
use Rattle.md_query.proofs.tables.shown.Given as goal

abbrev pub invariant-loop-hit : goal.invariant-loop-hit
invariant-loop-hit l = l.rows.items ≡ map shown (rows_of (take l.hit-index l.hits))
