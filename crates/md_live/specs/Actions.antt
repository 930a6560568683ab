-- What the lines of a script do.
use Rattle.std.specs.Prelude.{ℕ, ℤ, List, length, map, Option, None, Some, unwrap_or}
use Rattle.std.specs.List.{zip}
use Rattle.md_value.specs.Values.{PathBytes}
use Rattle.md_world.specs.declared.Change.{Change}
use Rattle.md_world.specs.declared.Change.TheVariants as change
use Rattle.md_machine.specs.declared.Event.{Event}
use Rattle.md_machine.specs.declared.Event.TheVariants as event
use Rattle.md_machine.specs.Answers.{spec_of}
use Rattle.imp_kind.specs.Imports.{import}
use Rattle.md_files.specs.FileAnswers.{of_import}
use Rattle.md_files.specs.declared.asking.ImportResult.{ImportResult}
use Rattle.md_files.specs.declared.asking.ImportResult.TheVariants as file
use Rattle.md_script.specs.declared.script.What.{What}
use Rattle.md_script.specs.declared.script.What.TheVariants as what
use Rattle.md_script.specs.declared.script.Line.{Line}
use Rattle.md_live.specs.Moments.{moment_of}

-- a job with what its file gives; a job that removes a path; an event of a query, or a vacuum; or the showing of what a
-- client holds
pub data Action : Type 0 where
  job : PathBytes → ImportResult → Action
  removal : PathBytes → Action
  query : Event → Action
  show : ℕ → ℕ → Action

-- what a file with this content gives that is put at the path and was changed at this moment
abbrev pub put_file : ℤ → ℤ → PathBytes → List ℕ → ImportResult
put_file changed offset path content = of_import (import (record { path = path; size = length content; changed = changed }) content offset)

-- what a line does at its milliseconds, in a run that began now at an offset: a file that is put was changed at the line's
-- moment, a query's forms of time are resolved from it, and an imported file is as it was given
abbrev pub action_at : ℤ → ℤ → ℕ → What → Option ImportResult → Action
action_at now offset ms (what.Put path text) given = job path (put_file (moment_of now ms) offset path text)
action_at now offset ms (what.Import path) given = job path (unwrap_or given file.Absent)
action_at now offset ms (what.Remove path) given = removal path
action_at now offset ms (what.Query client number expr scope order batch) given = query (event.Create client number (spec_of expr (moment_of now ms) offset scope order batch))
action_at now offset ms (what.Gather client number) given = query (event.Gather client number ms)
action_at now offset ms (what.Poll client number) given = query (event.Poll client number ms)
action_at now offset ms (what.Disable client number) given = query (event.Disable client number)
action_at now offset ms (what.Enable client number) given = query (event.Enable client number ms)
action_at now offset ms (what.Stop client number) given = query (event.Stop client number)
action_at now offset ms (what.Show client number) given = show client number
action_at now offset ms (what.Vacuum client) given = query (event.Vacuum client)

abbrev pub action_of : ℤ → ℤ → Line → Option ImportResult → Action
action_of now offset line given = action_at now offset line.at_ms line.what given

-- what the lines do, with what is given to each
abbrev pub actions_of : ℤ → ℤ → List Line → List (Option ImportResult) → List Action
actions_of now offset lines givens = map (λ pair. action_of now offset pair.0 pair.1) (zip lines givens)

-- the change that a file makes: its attributes are put, and nothing else makes one
abbrev pub change_of : ImportResult → Option Change
change_of (file.Attrs attrs) = Some (change.Put attrs)
change_of _ = None
