-- How many rows of the store the answer to an event reads.
use Rattle.std.specs.Prelude.{ℕ, Bool, true, false, List, Option, None, Some, length}
use Rattle.md_world.specs.declared.Row.{Row}
use Rattle.md_machine.specs.declared.Event.{Event}
use Rattle.md_machine.specs.declared.Event.TheVariants as event
use Rattle.md_machine.specs.States.{Query, State, query_at}
use Rattle.md_machine.specs.Steps.{Answered, gather, enable, poll}
use Rattle.md_query.specs.Reads.{most_reads}

-- the most rows that the query that is asked reads, if it is there
abbrev pub reads_asked : List Row → (Query → Answered) → Option Query → ℕ
reads_asked newest ask None = 0
reads_asked newest ask (Some q) = most_reads newest q.rows (ask q).reply

-- an event that asks a query
abbrev pub asks_query : Event → Bool
asks_query (event.Gather client number now) = true
asks_query (event.Disable client number) = true
asks_query (event.Enable client number now) = true
asks_query (event.Poll client number now) = true
asks_query _ = false

-- the most rows that the answer to an event reads
abbrev pub reads_of : State → Event → ℕ
reads_of s (event.Gather client number now) = reads_asked s.table (λ q. gather q now) (query_at s.queries client number)
reads_of s (event.Enable client number now) = reads_asked s.table (λ q. enable s q now) (query_at s.queries client number)
reads_of s (event.Poll client number now) = reads_asked s.table (λ q. poll s q now) (query_at s.queries client number)
reads_of s _ = 0

-- the most rows that are read to tell what a query has given, if it is there
abbrev pub held_reads : Option Query → ℕ
held_reads None = 0
held_reads (Some q) = length q.rows
