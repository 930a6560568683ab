-- What the tools make of files: how the askings ended, and the texts for out and err.
use Rattle.std.specs.Prelude.{◌≡◌, ℕ, ℤ, Bool, ◌||◌, List, is_some, Option}
use Rattle.std.specs.List.{flat_map, list_all}
use Rattle.md_value.specs.Values.{PathBytes}
use Rattle.md_source.specs.Tree.{Content, has_folder, file_at}
use Rattle.md_files.specs.FileAnswers.{FileAnswer, Fails, AreAsked}
use Rattle.md_files.specs.Folders.{PathResult, AreFound}
use Rattle.md_files.specs.Findings.{Finding, asked_findings, all_findings, err_line, end_of, shown_text, count_line}
use Rattle.md_files.specs.declared.report.End.{End}
use Rattle.md_files.specs.declared.report.End.TheVariants as ended

-- how the askings ended, and the texts
pub record FileReport : Type 0 where
  pub end : End
  pub out : List ℕ
  pub err : List ℕ

-- what is printed of findings, with this text for out
abbrev pub report_of : List ℕ → List Finding → FileReport
report_of text findings = record { end = end_of findings; out = text; err = flat_map err_line findings }

-- what `mdls` prints of these answers
abbrev pub shown : ℤ → Bool → List ℕ → List (List ℕ) → List PathBytes → List FileAnswer → FileReport
shown offset raw marker names paths answers =
    let findings = asked_findings offset paths answers in report_of (shown_text raw marker names findings) findings

-- what `mdimport` prints of what the paths were found to stand for
abbrev pub imported : ℤ → List PathBytes → List PathResult → FileReport
imported offset paths found =
    let findings = all_findings offset paths found in report_of (flat_map count_line findings) findings

-- the report is what `mdls` prints of the tree's answers to the askings of these files
pub record Shows (known : Option Content) (before now : ℕ) (offset : ℤ) (raw : Bool) (marker : List ℕ) (names : List (List ℕ)) (paths : List PathBytes) (report : FileReport) : Type 0 where
  pub answers : List FileAnswer
  pub asked : AreAsked known before now paths answers
  pub is : report ≡ shown offset raw marker names paths answers

-- the report is what `mdimport` prints of the tree's answers to the askings of these files and folders
pub record Imports (known : Option Content) (before now : ℕ) (offset : ℤ) (paths : List PathBytes) (report : FileReport) : Type 0 where
  pub found : List PathResult
  pub asked : AreFound known before now paths found
  pub is : report ≡ imported offset paths found

-- the count of failures rose where some asking failed, and stands where none did
abbrev pub EndHasCause : ℕ → ℕ → End → Type 0
EndHasCause before now ended.Ok = now ≡ before
EndHasCause before now ended.Failed = Fails before now
EndHasCause before now ended.Absent = now ≡ before

-- whether a path is that of a file that is known
abbrev pub tells_file : Content → PathBytes → Bool
tells_file content path = is_some (file_at content.files path)

-- whether it is that of a file or of a folder
abbrev pub tells : Content → PathBytes → Bool
tells content path = tells_file content path || has_folder content.folders path

-- whether all these paths are of files
abbrev pub tells_files : Content → List PathBytes → Bool
tells_files content paths = list_all (tells_file content) paths

-- whether all are of files or of folders
abbrev pub tells_all : Content → List PathBytes → Bool
tells_all content paths = list_all (tells content) paths
