-- The events of what is done.
use Rattle.std.specs.Prelude.{ℕ, List, [], ◌∷◌, ◌++◌, Option, None, Some}
use Rattle.std.specs.List.{zip}
use Rattle.md_value.specs.Values.{PathBytes}
use Rattle.md_world.specs.declared.Change.{Change}
use Rattle.md_world.specs.declared.Change.TheVariants as change
use Rattle.md_world.specs.Limits.{standard}
use Rattle.md_machine.specs.declared.Event.{Event}
use Rattle.md_machine.specs.declared.Event.TheVariants as event
use Rattle.md_machine.specs.declared.Reply.{Reply}
use Rattle.md_machine.specs.declared.Reply.TheVariants as reply
use Rattle.md_machine.specs.States.{State, opening}
use Rattle.md_machine.specs.Steps.{step}
use Rattle.md_machine.specs.Runs.{Entry, run_from}
use Rattle.md_live.specs.Actions.{Action, change_of}
use Rattle.md_live.specs.Actions.Action.{job, removal, query, show}

-- after the reply to its commit, a job closes its ticket if the store was full
abbrev pub after_commit : ℕ → Reply → List Event
after_commit ticket reply.StoreFull = event.Close ticket ∷ []
after_commit ticket _ = []

-- the end of a job that has a ticket: it commits its change, or closes the ticket where it has none
abbrev pub end_of : State → ℕ → Option Change → List Event
end_of s ticket (Some change) = event.Commit ticket change ∷ after_commit ticket (step s (event.Commit ticket change)).reply
end_of s ticket None = event.Close ticket ∷ []

-- after the reply to its draw, a job that has a ticket goes on to its end
abbrev pub after_draw : State → Option Change → Reply → List Event
after_draw s change (reply.Ticket ticket) = end_of s ticket change
after_draw s change _ = []

-- the events of a job: its draw and then its end
abbrev pub job_events : State → PathBytes → Option Change → List Event
job_events s path change = event.Draw path ∷ after_draw (step s (event.Draw path)).state change (step s (event.Draw path)).reply

-- the events of what is done in a state; showing what is held is none
abbrev pub events_of : State → Action → List Event
events_of s (job path given) = job_events s path (change_of given)
events_of s (removal path) = job_events s path (Some change.Remove)
events_of s (query event) = event ∷ []
events_of s (show client number) = []

-- the events from a state, each beside its reply
abbrev pub entries_from : State → List Event → List Entry
entries_from s events = zip events (run_from s events).replies

-- the events of all that is done, from a state on
abbrev pub events_from : State → List Action → List Event
events_from s [] = []
events_from s (action ∷ actions) = events_of s action ++ events_from (run_from s (events_of s action)).last actions

-- the events of a whole run, from the opening state
abbrev pub run_events : List Action → List Event
run_events actions = events_from (opening standard) actions
