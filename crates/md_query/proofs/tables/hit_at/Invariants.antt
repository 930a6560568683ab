use Rattle.std.proofs.Common.{◌≡◌, drop}
use Rattle.md_world.specs.Tables.{at}
use Rattle.md_query.specs.Rows.{rows_of}
use Rattle.md_query.proofs.tables.hit_at.Given as goal

abbrev pub invariant-loop-hit : goal.invariant-loop-hit
invariant-loop-hit l = at (rows_of l.hits) l.path ≡ at (rows_of (drop l.hit-index l.hits)) l.path
