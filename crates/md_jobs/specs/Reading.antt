-- What the jobs of lines are, by what a tree gives to them.
use Rattle.std.specs.Prelude.{◌≡◌, ℕ, ℤ, List, map, Option, None, Some}
use Rattle.std.specs.List.{filter_map}
use Rattle.std.specs.Option.{option_map}
use Rattle.md_source.specs.Tree.{Content}
use Rattle.md_files.specs.declared.asking.ImportResult.{ImportResult}
use Rattle.md_script.specs.declared.script.Line.{Line}
use Rattle.md_live.specs.Actions.{Action, action_of, actions_of}
use Rattle.md_live.specs.Actions.Action.{job, removal}
use Rattle.md_live.specs.Given.{IsGiven, AreGiven}
use Rattle.md_jobs.specs.declared.source.ScriptJob.{ScriptJob}
use Rattle.md_jobs.specs.Sources.{action_in}

-- what is done, if it is a job
abbrev pub job_action : Action → Option Action
job_action (job path given) = Some (job path given)
job_action (removal path) = Some (removal path)
job_action _ = None

-- The job of a line, if it has one, by what the tree gives to it.
pub record Makes (known : Option Content) (before after : ℕ) (now offset : ℤ) (line : Line) (made : Option ScriptJob) : Type 0 where
  pub given : Option ImportResult
  pub is_given : IsGiven offset known before after line given
  pub is : option_map (action_in offset) made ≡ job_action (action_of now offset line given)

-- The jobs of lines, in order, by what the tree gives to them in turn.
pub record Reads (known : Option Content) (before after : ℕ) (now offset : ℤ) (lines : List Line) (jobs : List ScriptJob) : Type 0 where
  pub givens : List (Option ImportResult)
  pub given : AreGiven offset known before after lines givens
  pub is : map (action_in offset) jobs ≡ filter_map job_action (actions_of now offset lines givens)
