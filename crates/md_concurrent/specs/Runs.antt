-- The run of a script's lines, the jobs by workers and the clients beside them.
use Rattle.std.specs.Prelude.{◌≡◌, ℕ, ℤ, List, map, Option}
use Rattle.std.specs.List.{filter_map}
use Rattle.md_world.specs.declared.TheConstants.Limits.{STANDARD}
use Rattle.md_source.specs.Tree.{Content}
use Rattle.md_machine.specs.States.{State}
use Rattle.md_machine.specs.Runs.{run}
use Rattle.md_turn.specs.declared.journal.JournalEntry.{JournalEntry}
use Rattle.md_merge.specs.Jobs.{table_of}
use Rattle.md_merge.specs.Journals.{events_in}
use Rattle.md_merge.specs.Laws.{last_table, NeverFull}
use Rattle.md_files.specs.declared.asking.ImportResult.{ImportResult}
use Rattle.md_script.specs.declared.script.Line.{Line}
use Rattle.md_live.specs.Given.{AreGiven}
use Rattle.md_live.specs.Actions.{actions_of}
use Rattle.md_jobs.specs.declared.source.ScriptJob.{ScriptJob}
use Rattle.md_jobs.specs.Sources.{action_in}
use Rattle.md_jobs.specs.Reading.{job_action}
use Rattle.md_jobs.specs.Scripts.{jobs_of, Merge}

-- The journal is merged of the script by what the tree gave to its lines; the server is in the state after it, and its table is
-- that of one thread.
pub record RunsConcurrently (known : Option Content) (before after : ℕ) (now offset : ℤ) (lines : List Line) (jobs : List ScriptJob) (state : State) (journal : List JournalEntry) : Type 0 where
  pub givens : List (Option ImportResult)
  pub given : AreGiven offset known before after lines givens
  -- The jobs do what the lines that are jobs do.
  pub jobs_are : map (action_in offset) jobs ≡ filter_map job_action (actions_of now offset lines givens)
  pub merge : Merge now offset lines givens journal
  pub last : state ≡ (run STANDARD (events_in journal)).last
  -- The last table is that of the jobs' changes, one after the other in the order of the lines.
  pub table : last_table journal ≡ table_of (jobs_of (actions_of now offset lines givens))
  -- A ticket and room for a path were always left.
  pub room : NeverFull journal
