-- A server with what is reported of its run so far.
use Rattle.std.specs.Prelude.{ℕ, ◌+◌, ◌-◌, List, [], ◌∷◌, ◌++◌, length, map, fold, Option, None, Some}
use Rattle.std.specs.Option.{option_map}
use Rattle.md_world.specs.Holding.{with_rows}
use Rattle.md_world.specs.Orders.{in_order}
use Rattle.md_world.specs.Limits.{standard}
use Rattle.md_hub.specs.Given.{given_by}
use Rattle.md_hub.specs.declared.held_rows.HeldRows.{HeldRows}
use Rattle.md_machine.specs.declared.Event.{Event}
use Rattle.md_machine.specs.declared.Event.TheVariants as event
use Rattle.md_machine.specs.States.{State, opening, query_at}
use Rattle.md_machine.specs.Runs.{run_from}
use Rattle.md_render.specs.Texts.{journal_text, follower_text}
use Rattle.md_notice.specs.Following.{Followed}
use Rattle.md_files.specs.Additions.{no_report, noted}
use Rattle.md_files.specs.Findings.Finding.{named}
use Rattle.md_files.specs.Reports.{FileReport}
use Rattle.md_script.specs.declared.script.What.{What}
use Rattle.md_script.specs.declared.script.What.TheVariants as what
use Rattle.md_live.specs.Actions.{Action}
use Rattle.md_live.specs.Actions.Action.{job, show}
use Rattle.md_live.specs.Events.{events_of, entries_from}
use Rattle.md_live.specs.Tallies.{tally_of, no_tally, both}
use Rattle.md_live.specs.declared.tally.Tally.{Tally}
use Rattle.md_live.specs.declared.sums.Sum.{Sum}

pub record Telling : Type 0 where
  pub state : State
  pub report : FileReport  -- the text for out so far, the lines on files, and how their askings ended
  pub next : ℕ  -- the place of the next entry
  pub tally : Tally  -- what the notices so far come to

-- the opening state, and nothing reported
abbrev pub unstarted : Telling
unstarted = record { state = opening standard; report = no_report; next = 1; tally = no_tally }

-- with more text for out
abbrev pub with_text : FileReport → List ℕ → FileReport
with_text report text = record report { out = report.out ++ text }

-- after these events: the state that they lead to, their entries written, and their notices counted
abbrev pub after_events : Telling → List Event → Telling
after_events t events =
    record {
      state = (run_from t.state events).last;
      report = with_text t.report (journal_text t.next (entries_from t.state events));
      next = t.next + length events;
      tally = both t.tally (tally_of (run_from t.state events).replies);
    }

-- with what became of a job's file
abbrev pub noting : Telling → Action → Telling
noting t (job path given) = record t { report = noted t.report (named path given) }
noting t _ = t

-- the hits that a live query has given, in its order
abbrev pub followed : HeldRows → Followed
followed held = record { order = held.order; rows = in_order held.order (with_rows [] held.rows); version = held.version }

-- those of the query of a client and a number, if it is live
abbrev pub followed_in : State → ℕ → ℕ → Option Followed
followed_in s client number = option_map followed (option_map given_by (query_at s.queries client number))

-- after what is done
abbrev pub after_action : Telling → Action → Telling
after_action t (show client number) = record t { report = with_text t.report (follower_text client number (followed_in t.state client number)) }
after_action t action = after_events (noting t action) (events_of t.state action)

-- after all that is done
abbrev pub after_actions : Telling → List Action → Telling
after_actions t actions = fold after_action t actions

-- how many hits a live query has given; none where there is no query
abbrev pub given_count : Option HeldRows → ℕ
given_count None = 0
given_count (Some held) = length held.rows

-- the same for a client's query 1
abbrev pub given_to : State → ℕ → ℕ
given_to s client = given_count (option_map given_by (query_at s.queries client 1))

-- what the run so far comes to, with how many rows each of these clients holds by its query 1
abbrev pub sum_so_far : Telling → List ℕ → Sum
sum_so_far t clients =
    record {
      events = t.next - 1;
      version = t.state.version;
      rows = length t.state.table;
      tally = t.tally;
      held = map (given_to t.state) clients;
    }

-- the event by which a line asks a query for something, or for a vacuum, if it does
abbrev pub asked_events : ℕ → What → List Event
asked_events ms (what.Gather client number) = event.Gather client number ms ∷ []
asked_events ms (what.Poll client number) = event.Poll client number ms ∷ []
asked_events ms (what.Disable client number) = event.Disable client number ∷ []
asked_events ms (what.Enable client number) = event.Enable client number ms ∷ []
asked_events ms (what.Stop client number) = event.Stop client number ∷ []
asked_events ms (what.Vacuum client) = event.Vacuum client ∷ []
asked_events ms _ = []
