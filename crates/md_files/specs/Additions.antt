-- A report that findings are added to, one after the other.
use Rattle.std.specs.Prelude.{◌≡◌, ℕ, ℤ, Bool, ◌&&◌, List, [], ◌∷◌, ◌++◌, Option}
use Rattle.std.specs.List.{flat_map}
use Rattle.md_value.specs.Values.{PathBytes}
use Rattle.md_source.specs.Tree.{Content}
use Rattle.md_source.specs.declared.tree.Entry.{Entry}
use Rattle.md_file_text.specs.Attributes.{attrs_text}
use Rattle.md_files.specs.FileAnswers.{FileAnswer, IsRead, import_result}
use Rattle.md_files.specs.Folders.{PathResult, IsFound, AreRead}
use Rattle.md_files.specs.Findings.Finding.{named}
use Rattle.md_files.specs.Findings.{Finding, read_findings, found_findings, err_line, end_of, separator, count_line}
use Rattle.md_files.specs.Reports.{FileReport}
use Rattle.md_files.specs.declared.asking.ImportResult.{ImportResult}
use Rattle.md_files.specs.declared.asking.ImportResult.TheVariants as asked
use Rattle.md_files.specs.declared.report.End.{End}
use Rattle.md_files.specs.declared.report.End.TheVariants as ended

-- nothing asked and nothing printed
abbrev pub no_report : FileReport
no_report = record { end = ended.Ok; out = []; err = [] }

-- the worse of two ends
abbrev pub worse : End → End → End
worse ended.Ok other = other
worse ended.Failed other = ended.Failed
worse ended.Absent ended.Failed = ended.Failed
worse ended.Absent other = ended.Absent

-- with the line on a finding, and the end that it makes
abbrev pub noted : FileReport → Finding → FileReport
noted report finding =
    record { end = worse report.end (end_of (finding ∷ [])); out = report.out; err = report.err ++ err_line finding }

-- with the count of the attributes that a finding gives
abbrev pub counted : FileReport → Finding → FileReport
counted report finding = record (noted report finding) { out = report.out ++ count_line finding }

-- with those of several findings
abbrev pub counted_all : FileReport → List Finding → FileReport
counted_all report findings =
    record {
      end = worse report.end (end_of findings);
      out = report.out ++ flat_map count_line findings;
      err = report.err ++ flat_map err_line findings;
    }

-- what is printed of a file's attributes, behind those of other files if there are some
abbrev pub next_text : Bool → Bool → List ℕ → List (List ℕ) → ImportResult → List ℕ
next_text some raw marker names (asked.Attrs attrs) = separator (some && raw) ++ attrs_text attrs names raw marker
next_text some raw marker names _ = []

-- a named file was asked for, and what became of it was added
pub record CountsFile (known : Option Content) (before now : ℕ) (offset : ℤ) (entry : Entry) (old new : FileReport) : Type 0 where
  pub answer : FileAnswer
  pub asked : IsRead known before now entry answer
  pub is : new ≡ counted old (named entry.path (import_result offset answer))

-- the files of a listing were asked for in turn, and what became of them was added
pub record CountsFiles (known : Option Content) (before now : ℕ) (offset : ℤ) (entries : List Entry) (old new : FileReport) : Type 0 where
  pub answers : List FileAnswer
  pub asked : AreRead known before now entries answers
  pub is : new ≡ counted_all old (read_findings offset entries answers)

-- what a path stands for was asked for, and what became of it was added
pub record CountsPath (known : Option Content) (before now : ℕ) (offset : ℤ) (path : PathBytes) (old new : FileReport) : Type 0 where
  pub found : PathResult
  pub asked : IsFound known before now path found
  pub is : new ≡ counted_all old (found_findings offset path found)
