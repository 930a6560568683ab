-- What is printed on out of what is done.
use Rattle.std.specs.Prelude.{ℕ, ◌+◌, List, [], ◌∷◌, ◌++◌, length, Option, None, Some}
use Rattle.md_world.specs.Orders.{in_order}
use Rattle.md_world.specs.Limits.{standard}
use Rattle.md_machine.specs.States.{Query, State, opening, query_at}
use Rattle.md_machine.specs.Runs.{Entry, run_from, received, held}
use Rattle.md_render.specs.Texts.{journal_text, held_text, unheld_text}
use Rattle.md_live.specs.Actions.{Action}
use Rattle.md_live.specs.Actions.Action.{show}
use Rattle.md_live.specs.Events.{events_of, entries_from}

-- what the client of a live query holds by the entries so far, in the query's order; or that there is no such query
abbrev pub shown_text : List Entry → ℕ → ℕ → Option Query → List ℕ
shown_text entries client number None = unheld_text client number
shown_text entries client number (Some q) = held_text client number q.base (in_order q.spec.order (held (received client number entries)))

-- what is printed of what is done after these entries in a state: its own entries, or what a client holds
abbrev pub action_text : List Entry → State → Action → List ℕ
action_text entries s (show client number) = shown_text entries client number (query_at s.queries client number)
action_text entries s action = journal_text (1 + length entries) (entries_from s (events_of s action))

-- what is printed of all that is done, from these entries and this state on
abbrev pub text_from : List Entry → State → List Action → List ℕ
text_from entries s [] = []
text_from entries s (action ∷ actions) =
    action_text entries s action ++ text_from (entries ++ entries_from s (events_of s action)) (run_from s (events_of s action)).last actions

-- what is printed of a whole run, from the opening state
abbrev pub run_text : List Action → List ℕ
run_text actions = text_from [] (opening standard) actions
