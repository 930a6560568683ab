-- What a search gives.
use Rattle.std.specs.Prelude.{◌≡◌, ℕ, List, [], ◌∷◌, ◌++◌, length, filter, codes, Option, Some, None}
use Rattle.std.specs.Fmt.{decimal}
use Rattle.std.specs.List.{flat_map}
use Rattle.std.specs.Option.{option_map}
use Rattle.md_value.specs.Values.{PathBytes}
use Rattle.md_source.specs.Tree.{Content}
use Rattle.md_source.specs.declared.tree.Entry.{Entry}
use Rattle.md_world.specs.Differences.{paths_of}
use Rattle.md_match.specs.Conditions.{Condition, passes}
use Rattle.md_match.specs.Forms.{first_out_of_range, capped}
use Rattle.md_machine.specs.declared.Spec.{Spec}
use Rattle.md_machine.specs.Answers.{no_batch}
use Rattle.md_machine.specs.Answers as machine
use Rattle.md_machine.specs.Answers.{answer}
use Rattle.md_files.specs.FileAnswers.{FileAnswer}
use Rattle.md_files.specs.Folders.{AreRead}
use Rattle.md_files.specs.Findings.{read_findings}
use Rattle.md_files.specs.Findings.Finding.{named, no_listing}
use Rattle.md_files.specs.Reports.{FileReport, report_of, EndHasCause}
use Rattle.md_files.specs.declared.asking.ImportResult.TheVariants as asked
use Rattle.md_files.specs.declared.report.End.{End}
use Rattle.md_find.specs.declared.finding.Search.{Search}
use Rattle.md_find.specs.declared.finding.Output.{Output}
use Rattle.md_find.specs.declared.finding.Output.TheVariants as output
use Rattle.md_find.specs.declared.finding.SearchResult.{SearchResult}
use Rattle.md_find.specs.declared.finding.SearchResult.TheVariants as found
use Rattle.md_find.specs.Files.{table_of}
use Rattle.md_find.specs.Folders.{Folder, files, unlisted, nothing, full, IsFolder}

-- the query of a search: all hits in one part
abbrev pub query_of : Search → Spec
query_of search = machine.spec_of search.expr search.local.moment search.local.offset search.scope [] no_batch

-- the paths of the files that a query answers
abbrev pub hits : Spec → List Entry → List FileAnswer → List PathBytes
hits query entries answers = paths_of (answer query (table_of query.offset entries answers))

-- a path with this end behind it
abbrev pub ended : List ℕ → PathBytes → List ℕ
ended end path = path ++ end

-- what is printed of these paths
abbrev pub found_text : Output → List PathBytes → List ℕ
found_text output.Lines paths = flat_map (ended (codes "\n")) paths
found_text output.Zeros paths = flat_map (ended (0 ∷ [])) paths
found_text output.Count paths = decimal (length paths) ++ codes "\n"

-- what is found among the files of a folder
abbrev pub found_among : Spec → Output → List Entry → List FileAnswer → FileReport
found_among query output entries answers = report_of (found_text output (hits query entries answers)) (read_findings query.offset entries answers)

-- what a query gives on a folder
abbrev pub found_in : Spec → Output → Folder → SearchResult
found_in query output (files entries answers) = found.Done (found_among query output entries answers)
found_in query output unlisted = found.Done (report_of (found_text output []) (no_listing query.scope ∷ []))
found_in query output nothing = found.Done (report_of (found_text output []) (named query.scope asked.Absent ∷ []))
found_in query output full = found.Full

-- the number of the first form of time of a search that is out of range
abbrev pub form_out : Search → Option ℕ
form_out search = option_map capped (first_out_of_range search.local.moment search.local.offset search.expr)

-- What a search gives: a form of time that is out of range, where the tree is not asked, or what its query gives on its folder.
pub data Finds (known : Option Content) (before now : ℕ) (search : Search) (output : Output) : SearchResult → Type 0 where
  misdates : (which : ℕ) → form_out search ≡ Some which → now ≡ before → Finds known before now search output (found.OutOfRange which)
  asks : (folder : Folder) → form_out search ≡ None → IsFolder known before now search.scope folder → Finds known before now search output (found_in (query_of search) output folder)

-- the form of time that is reported to be out of range
abbrev pub form_reported : SearchResult → Option ℕ
form_reported (found.OutOfRange which) = Some which
form_reported _ = None

-- the count of failures rose where some asking failed, and stands where none did
abbrev pub HasCause : ℕ → ℕ → SearchResult → Type 0
HasCause before now (found.Done report) = EndHasCause before now report.end
HasCause before now _ = now ≡ before

-- it is a report that ends so
abbrev pub EndsBy : SearchResult → End → Type 0
EndsBy (found.Done report) end = report.end ≡ end
EndsBy _ end = ⊥

-- the files of a listing were asked for in turn, and this is found among them by a condition
pub record FindsBy (known : Option Content) (before now : ℕ) (condition : Condition) (output : Output) (entries : List Entry) (report : FileReport) : Type 0 where
  pub answers : List FileAnswer
  pub asked : AreRead known before now entries answers
  pub is : report ≡ report_of (found_text output (paths_of (filter (passes condition) (table_of condition.offset entries answers)))) (read_findings condition.offset entries answers)

-- and by a query
pub record FindsAmong (known : Option Content) (before now : ℕ) (query : Spec) (output : Output) (entries : List Entry) (report : FileReport) : Type 0 where
  pub answers : List FileAnswer
  pub asked : AreRead known before now entries answers
  pub is : report ≡ found_among query output entries answers

-- the query's folder was asked for, and this is found below it
pub record FindsBelow (known : Option Content) (before now : ℕ) (query : Spec) (output : Output) (found : SearchResult) : Type 0 where
  pub folder : Folder
  pub is_folder : IsFolder known before now query.scope folder
  pub is : found ≡ found_in query output folder
