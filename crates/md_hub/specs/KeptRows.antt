-- The rows that the server keeps.
use Rattle.std.specs.Prelude.{ℕ, List, [], map, Option, None, Some}
use Rattle.md_value.specs.Values.{PathBytes}
use Rattle.md_world.specs.Tables.{row_of}
use Rattle.md_world.specs.Tickets.{Ticket, ticket_at}
use Rattle.md_world.specs.declared.Change.{Change}
use Rattle.md_machine.specs.declared.Event.{Event}
use Rattle.md_machine.specs.declared.Event.TheVariants as event
use Rattle.md_machine.specs.declared.Reply.{Reply}
use Rattle.md_machine.specs.declared.Reply.TheVariants as reply
use Rattle.md_machine.specs.States.{Query}
use Rattle.md_store.specs.Places.{Place, with_commit, places_seen}
use Rattle.md_hub.specs.Served.{Served}

-- the versions that queries speak of
abbrev pub bases : List Query → List ℕ
bases queries = map (λ q. q.base) queries

abbrev pub ticket_path : Option Ticket → PathBytes
ticket_path None = []
ticket_path (Some t) = t.path

-- the rows kept once a commit of a ticket is answered so
abbrev pub kept_by : List Ticket → List Place → ℕ → Change → Reply → List Place
kept_by tickets places number change (reply.Committed version) =
    with_commit places (ticket_path (ticket_at tickets number)) number version (row_of (ticket_path (ticket_at tickets number)) change)
kept_by tickets places number change _ = places

-- The rows kept once an event is answered so: a commit that is made adds its row. A vacuum leaves exactly the rows that the
-- newest version sees, or the base of a live query.
abbrev pub kept_after : Served → Event → Reply → List Place
kept_after h (event.Commit number change) answer = kept_by h.state.tickets h.places number change answer
kept_after h (event.Vacuum client) answer = places_seen h.state.version (bases h.state.queries) h.places
kept_after h _ answer = h.places
