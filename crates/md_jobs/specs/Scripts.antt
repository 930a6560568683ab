-- The jobs of a script and what its clients ask, and which journals are of its run by workers.
use Rattle.std.specs.Prelude.{ℤ, List, Option, None, Some}
use Rattle.std.specs.List.{filter_map}
use Rattle.md_world.specs.declared.Change.TheVariants as change
use Rattle.md_machine.specs.declared.Event.{Event}
use Rattle.md_turn.specs.declared.journal.JournalEntry.{JournalEntry}
use Rattle.md_merge.specs.Jobs.{Job}
use Rattle.md_merge.specs.Merging.{IsMerged}
use Rattle.md_files.specs.declared.asking.ImportResult.{ImportResult}
use Rattle.md_script.specs.declared.script.Line.{Line}
use Rattle.md_live.specs.Actions.{Action, actions_of, change_of}
use Rattle.md_live.specs.Actions.Action.{job, removal, query}

-- the job that is done, if it is one: a file that is put or imported commits what it gives, and a removal the removal
abbrev pub job_of : Action → Option Job
job_of (job path given) = Some (record { path = path; change = change_of given })
job_of (removal path) = Some (record { path = path; change = Some change.Remove })
job_of _ = None

-- the jobs of what is done, in order; the k-th has ticket k
abbrev pub jobs_of : List Action → List Job
jobs_of actions = filter_map job_of actions

-- what a client asks, if it is that
abbrev pub ask_of : Action → Option Event
ask_of (query event) = Some event
ask_of _ = None

-- what the clients ask, in order
abbrev pub asks_of : List Action → List Event
asks_of actions = filter_map ask_of actions

-- the journal is of what is done, the jobs by workers
abbrev pub IsMergeOf : List Action → List JournalEntry → Type 0
IsMergeOf actions journal = IsMerged (jobs_of actions) (asks_of actions) journal

-- The journal is of the run of these lines, which began now at an offset, with what the tree gave to each line.
abbrev pub Merge : ℤ → ℤ → List Line → List (Option ImportResult) → List JournalEntry → Type 0
Merge now offset lines givens journal = IsMergeOf (actions_of now offset lines givens) journal
