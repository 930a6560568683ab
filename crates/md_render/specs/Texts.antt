-- The text of a journal.
use Rattle.std.specs.Prelude.{ℕ, ◌+◌, Bool, true, false, List, [], ◌∷◌, ◌++◌, length, codes, Option, None, Some}
use Rattle.std.specs.Fmt.{decimal}
use Rattle.std.specs.List.{flat_map}
use Rattle.md_value.specs.Values.{PathBytes}
use Rattle.md_world.specs.declared.Row.{Row}
use Rattle.md_world.specs.declared.Notice.{Notice}
use Rattle.md_file_text.specs.Paths.{escaped}
use Rattle.md_notice.specs.Following.{Followed}
use Rattle.md_machine.specs.declared.Event.{Event}
use Rattle.md_machine.specs.declared.Event.TheVariants as event
use Rattle.md_machine.specs.declared.Reply.{Reply}
use Rattle.md_machine.specs.declared.Reply.TheVariants as reply

-- a line of a word and a number
abbrev pub number_line : List ℕ → ℕ → List ℕ
number_line word n = word ++ codes " " ++ decimal n ++ codes "\n"

-- a line of a word and two numbers
abbrev pub pair_line : List ℕ → ℕ → ℕ → List ℕ
pair_line word m n = word ++ codes " " ++ decimal m ++ codes " " ++ decimal n ++ codes "\n"

-- a line of a path
abbrev pub path_line : PathBytes → List ℕ
path_line path = escaped path ++ codes "\n"

-- a line of a mark and a path
abbrev pub marked_line : List ℕ → PathBytes → List ℕ
marked_line mark path = mark ++ path_line path

-- such a line for each path
abbrev pub path_lines : List ℕ → List PathBytes → List ℕ
path_lines mark paths = flat_map (marked_line mark) paths

-- such a line for each row's path
abbrev pub row_lines : List ℕ → List Row → List ℕ
row_lines mark rows = flat_map (λ row. marked_line mark row.path) rows

-- the next hits
abbrev pub progress_text : List Row → List ℕ
progress_text hits = number_line (codes "progress") (length hits) ++ row_lines (codes "  ") hits

-- the last hits, of a version
abbrev pub finished_text : List Row → ℕ → List ℕ
finished_text hits version = pair_line (codes "finished") (length hits) version ++ row_lines (codes "  ") hits

-- what differs between two versions
abbrev pub notice_text : Notice → List ℕ
notice_text n =
    pair_line (codes "notice") n.from n.to
    ++ row_lines (codes "+ ") n.added
    ++ row_lines (codes "~ ") n.changed
    ++ path_lines (codes "- ") n.removed

-- a reply to a query's event; the others have no such text
abbrev pub query_text : Reply → List ℕ
query_text (reply.Created version) = number_line (codes "created") version
query_text reply.Taken = codes "taken\n"
query_text reply.TooMany = codes "too-many\n"
query_text (reply.Progress part) = progress_text part.hits
query_text (reply.Finished part version) = finished_text part.hits version
query_text (reply.AlreadyFinished version) = number_line (codes "already-finished") version
query_text reply.NotFinished = codes "not-finished\n"
query_text (reply.Held count) = number_line (codes "held") count
query_text (reply.Disabled count) = number_line (codes "disabled") count
query_text reply.TooDeep = codes "too-deep\n"
query_text (reply.StillDisabled count) = number_line (codes "still-disabled") count
query_text reply.Resumed = codes "resumed\n"
query_text reply.NotDisabled = codes "not-disabled\n"
query_text (reply.Notice notice) = notice_text notice
query_text (reply.NotYet items) = number_line (codes "not-yet") items
query_text reply.Stopped = codes "stopped\n"
query_text reply.NoQuery = codes "no-query\n"
query_text _ = []

-- a ticket for a path
abbrev pub ticket_text : ℕ → PathBytes → List ℕ
ticket_text ticket path = codes "ticket " ++ decimal ticket ++ codes " " ++ path_line path

-- an answer to a draw
abbrev pub draw_text : PathBytes → Reply → List ℕ
draw_text path (reply.Ticket ticket) = ticket_text ticket path
draw_text path reply.TicketsSpent = marked_line (codes "tickets-spent ") path
draw_text path _ = []

-- an answer to a commit
abbrev pub commit_text : ℕ → Reply → List ℕ
commit_text ticket (reply.Committed version) = pair_line (codes "committed") ticket version
commit_text ticket (reply.Superseded newer) = pair_line (codes "superseded") ticket newer
commit_text ticket reply.StoreFull = number_line (codes "store-full") ticket
commit_text ticket reply.NoTicket = number_line (codes "no-ticket") ticket
commit_text ticket _ = []

-- an answer to a close
abbrev pub close_text : ℕ → Reply → List ℕ
close_text ticket reply.Closed = number_line (codes "closed") ticket
close_text ticket reply.NoTicket = number_line (codes "no-ticket") ticket
close_text ticket _ = []

-- a text that begins with a client and a query's number
abbrev pub query_line : ℕ → ℕ → List ℕ → List ℕ
query_line client number text = codes "c" ++ decimal client ++ codes " q" ++ decimal number ++ codes " " ++ text

-- an answer to a query's event
abbrev pub asked_text : ℕ → ℕ → Reply → List ℕ
asked_text client number reply = query_line client number (query_text reply)

-- an event with its reply, without the place
abbrev pub event_text : Event → Reply → List ℕ
event_text (event.Draw path) reply = draw_text path reply
event_text (event.Commit ticket change) reply = commit_text ticket reply
event_text (event.Close ticket) reply = close_text ticket reply
event_text (event.Create client number spec) reply = asked_text client number reply
event_text (event.Gather client number now) reply = asked_text client number reply
event_text (event.Disable client number) reply = asked_text client number reply
event_text (event.Enable client number now) reply = asked_text client number reply
event_text (event.Poll client number now) reply = asked_text client number reply
event_text (event.Stop client number) reply = asked_text client number reply
event_text (event.Vacuum client) reply = codes "c" ++ decimal client ++ codes " vacuumed\n"

-- the entry at a place, for an event with its reply
unfoldable pub entry_text : ℕ → Event → Reply → List ℕ
entry_text place event reply = decimal place ++ codes " " ++ event_text event reply

-- the entries' texts, with places from a number on
abbrev pub journal_text : ℕ → List (Event × Reply) → List ℕ
journal_text place [] = []
journal_text place (entry ∷ entries) = entry_text place entry.0 entry.1 ++ journal_text (place + 1) entries

-- what is held: how many rows and of which version, then the rows
abbrev pub holding_text : ℕ → List Row → List ℕ
holding_text version rows = pair_line (codes "holds") (length rows) version ++ row_lines (codes "  ") rows

-- what a client holds of a live query
abbrev pub held_text : ℕ → ℕ → ℕ → List Row → List ℕ
held_text client number version rows = query_line client number (holding_text version rows)

-- what a client holds where it has no live query of the number
abbrev pub unheld_text : ℕ → ℕ → List ℕ
unheld_text client number = codes "c" ++ decimal client ++ codes " q" ++ decimal number ++ codes " holds nothing\n"

-- what the follower of a query holds; without one, that there is no live query of the number
abbrev pub follower_text : ℕ → ℕ → Option Followed → List ℕ
follower_text client number None = unheld_text client number
follower_text client number (Some followed) = held_text client number followed.version followed.rows

-- whether a reply answers a draw
abbrev pub answers_draw : Reply → Bool
answers_draw (reply.Ticket ticket) = true
answers_draw reply.TicketsSpent = true
answers_draw _ = false

-- whether a reply answers a commit
abbrev pub answers_commit : Reply → Bool
answers_commit (reply.Committed version) = true
answers_commit (reply.Superseded newer) = true
answers_commit reply.StoreFull = true
answers_commit reply.NoTicket = true
answers_commit _ = false

-- whether a reply answers a close
abbrev pub answers_close : Reply → Bool
answers_close reply.Closed = true
answers_close reply.NoTicket = true
answers_close _ = false

-- whether a reply answers a vacuum
abbrev pub answers_vacuum : Reply → Bool
answers_vacuum reply.Vacuumed = true
answers_vacuum _ = false

-- whether a reply answers a query's event, as all but these do
abbrev pub answers_query : Reply → Bool
answers_query (reply.Ticket ticket) = false
answers_query reply.TicketsSpent = false
answers_query (reply.Committed version) = false
answers_query (reply.Superseded newer) = false
answers_query reply.StoreFull = false
answers_query reply.NoTicket = false
answers_query reply.Closed = false
answers_query reply.Vacuumed = false
answers_query reply.Memory = false
answers_query _ = true

-- whether the journal has a text for an event with the reply
abbrev pub has_text : Event → Reply → Bool
has_text (event.Draw path) reply = answers_draw reply
has_text (event.Commit ticket change) reply = answers_commit reply
has_text (event.Close ticket) reply = answers_close reply
has_text (event.Create client number spec) reply = answers_query reply
has_text (event.Gather client number now) reply = answers_query reply
has_text (event.Disable client number) reply = answers_query reply
has_text (event.Enable client number now) reply = answers_query reply
has_text (event.Poll client number now) reply = answers_query reply
has_text (event.Stop client number) reply = answers_query reply
has_text (event.Vacuum client) reply = answers_vacuum reply
