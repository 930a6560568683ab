-- What the run of a script prints, and how it ends.
use Rattle.std.specs.Prelude.{◌≡◌, ℕ, ℤ, List, Option, None, Some}
use Rattle.std.specs.List.{filter_map}
use Rattle.md_source.specs.Tree.{Content}
use Rattle.md_files.specs.FileAnswers.{IsCounted}
use Rattle.md_files.specs.Findings.{Finding}
use Rattle.md_files.specs.Findings.Finding.{named}
use Rattle.md_files.specs.Reports.{FileReport, report_of}
use Rattle.md_files.specs.declared.asking.ImportResult.{ImportResult}
use Rattle.md_script.specs.declared.script.Line.{Line}
use Rattle.md_live.specs.Given.{AreGiven, failures}
use Rattle.md_live.specs.Actions.{Action, actions_of}
use Rattle.md_live.specs.Actions.Action.{job}
use Rattle.md_live.specs.Texts.{run_text}

-- what became of the file of a job
abbrev pub finding_of : Action → Option Finding
finding_of (job path given) = Some (named path given)
finding_of _ = None

-- what is printed of what is done, and how that ended
abbrev pub report_of_actions : List Action → FileReport
report_of_actions actions = report_of (run_text actions) (filter_map finding_of actions)

-- the report is what a run of these lines prints, which began now at an offset, with what the tree gives to each line; as
-- many askings as failed, the count of failures rose by no less
pub record Runs (known : Option Content) (before after : ℕ) (now offset : ℤ) (lines : List Line) (report : FileReport) : Type 0 where
  pub givens : List (Option ImportResult)
  pub given : AreGiven offset known before after lines givens
  pub counted : IsCounted before after (failures givens)
  pub is : report ≡ report_of_actions (actions_of now offset lines givens)
