-- What is printed, and the status that goes with it.
use Rattle.std.specs.Prelude.{ℕ, List, [], ◌++◌, codes}
use Rattle.std.specs.Fmt.{decimal}
use Rattle.md_expr_parse.specs.declared.read.ReadError.{ReadError}
use Rattle.md_expr_parse.specs.declared.read.ReadError.TheVariants as unread
use Rattle.md_files.specs.Reports as files
use Rattle.md_files.specs.declared.report.End.{End}
use Rattle.md_files.specs.declared.report.End.TheVariants as ended
use Rattle.md_find.specs.Folders.{most_files}
use Rattle.md_find.specs.declared.finding.SearchResult.{SearchResult}
use Rattle.md_find.specs.declared.finding.SearchResult.TheVariants as found
use Rattle.md_script.specs.declared.script.ScriptError.{ScriptError}
use Rattle.md_script.specs.declared.script.ScriptError.TheVariants as error
use Rattle.md_tool.specs.declared.status.Status.{Status}
use Rattle.md_tool.specs.declared.status.Status.TheVariants as status

-- a status, and the whole texts for out and err
pub record Report : Type 0 where
  pub status : Status
  pub out : List ℕ
  pub err : List ℕ

-- a text for out, and nothing else
abbrev pub plain : List ℕ → Report
plain text = record { status = status.Ok; out = text; err = [] }

-- nothing on out, and one line on err
abbrev pub refusal : Status → List ℕ → Report
refusal answer line = record { status = answer; out = []; err = codes "mdserve: " ++ (line ++ codes "\n") }

-- words that are not understood
abbrev pub usage : Report
usage = refusal status.Usage (codes "words not understood")

-- the status of a tool on files
abbrev pub status_of : End → Status
status_of ended.Ok = status.Ok
status_of ended.Failed = status.ReadFault
status_of ended.Absent = status.Absent

-- what a tool on files prints
abbrev pub of_files : files.FileReport → Report
of_files made = record { status = status_of made.end; out = made.out; err = made.err }

-- a clock that failed
abbrev pub no_clock : Report
no_clock = refusal status.ReadFault (codes "clock could not be read")

-- what refuses a script
abbrev pub refused_script : ScriptError → Report
refused_script error.TooLong = refusal status.Script (codes "script too long")
refused_script error.TooManyLines = refusal status.Script (codes "script has too many lines")
refused_script (error.BadLine number) = refusal status.Script (codes "line " ++ (decimal number ++ codes " not understood"))
refused_script error.Memory = refusal status.Memory []

-- what refuses a search text
abbrev pub refused_text : ReadError → Report
refused_text unread.TooLong = refusal status.Expression (codes "expression too long")
refused_text unread.NotExpression = refusal status.Expression (codes "not an expression")
refused_text unread.TooDeep = refusal status.Expression (codes "expression too deep")
refused_text unread.TooMany = refusal status.Expression (codes "too many comparisons")
refused_text unread.Memory = refusal status.Memory []

-- a form of time of a line of a script that is out of range
abbrev pub line_out_of_range : ℕ → ℕ → Report
line_out_of_range line form =
    refusal status.Expression (codes "line " ++ (decimal line ++ (codes ": time form " ++ (decimal form ++ codes " out of range"))))

-- a form of time of a search text that is out of range
abbrev pub form_out_of_range : ℕ → Report
form_out_of_range form = refusal status.Expression (codes "time form " ++ (decimal form ++ codes " out of range"))

-- a folder that has too many files to be searched
abbrev pub too_many_files : Report
too_many_files = refusal status.Full (codes "more than " ++ (decimal most_files ++ codes " files"))

-- what `mdfind` prints of what its search gives
abbrev pub of_found : SearchResult → Report
of_found (found.Done made) = of_files made
of_found found.Full = too_many_files
of_found (found.OutOfRange form) = form_out_of_range form
