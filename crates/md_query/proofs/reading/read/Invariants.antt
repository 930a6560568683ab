use Rattle.std.proofs.Common.{◌≡◌, ◌+◌, take}
use Rattle.md_store.specs.Places.{table_at}
use Rattle.md_query.specs.Rows.{rows_of}
use Rattle.md_query.proofs.reading.read.Given as goal

-- the rows of the places so far, each of which is read once
abbrev pub invariant-loop-place : goal.invariant-loop-place
invariant-loop-place g l = (rows_of l.rows.items ≡ take l.place-index (table_at l.store.places l.version)) × (l.steps ≡ l.fn.steps + l.place-index)
