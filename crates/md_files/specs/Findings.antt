-- What became of the paths that a tool was given, and how that is printed.
use Rattle.std.specs.Prelude.{ℕ, ℤ, Bool, true, false, List, [], ◌∷◌, ◌++◌, length, map, codes, Option, Some, None, if◌then◌else◌}
use Rattle.std.specs.Fmt.{decimal}
use Rattle.std.specs.List.{zip, flat_map, filter_map, list_any, join_by}
use Rattle.md_value.specs.Values.{PathBytes}
use Rattle.md_value.specs.Attrs.{Attr}
use Rattle.md_source.specs.declared.tree.Entry.{Entry}
use Rattle.md_file_text.specs.Attributes.{attrs_text}
use Rattle.md_file_text.specs.Faults.{fault_text, failure_text}
use Rattle.md_file_text.specs.Paths.{escaped}
use Rattle.md_file_text.specs.declared.faults.Failure.TheVariants as failure
use Rattle.md_files.specs.FileAnswers.{FileAnswer, import_result}
use Rattle.md_files.specs.Folders.{PathResult}
use Rattle.md_files.specs.Folders.PathResult.{file, unfound, folder, unlisted, nothing}
use Rattle.md_files.specs.declared.asking.ImportResult.{ImportResult}
use Rattle.md_files.specs.declared.asking.ImportResult.TheVariants as asked
use Rattle.md_files.specs.declared.report.End.{End}
use Rattle.md_files.specs.declared.report.End.TheVariants as ended

-- what became of a path that was named, or of a file of a listing; or a folder that could not be listed
pub data Finding : Type 0 where
  named : PathBytes → ImportResult → Finding
  listed : PathBytes → ImportResult → Finding
  no_listing : PathBytes → Finding

-- of files that were asked for by their paths
abbrev pub asked_findings : ℤ → List PathBytes → List FileAnswer → List Finding
asked_findings offset paths answers = map (λ pair. named pair.0 (import_result offset pair.1)) (zip paths answers)

-- of the files of a listing
abbrev pub read_findings : ℤ → List Entry → List FileAnswer → List Finding
read_findings offset entries answers = map (λ pair. listed pair.0.path (import_result offset pair.1)) (zip entries answers)

-- of what a path stands for
abbrev pub found_findings : ℤ → PathBytes → PathResult → List Finding
found_findings offset path (file answer) = named path (import_result offset answer) ∷ []
found_findings offset path unfound = named path asked.Failed ∷ []
found_findings offset path (folder entries answers) = read_findings offset entries answers
found_findings offset path unlisted = no_listing path ∷ []
found_findings offset path nothing = named path asked.Absent ∷ []

abbrev pub all_findings : ℤ → List PathBytes → List PathResult → List Finding
all_findings offset paths found = flat_map (λ pair. found_findings offset pair.0 pair.1) (zip paths found)

-- the line for err on a file: none where it gives attributes
abbrev pub asked_line : PathBytes → ImportResult → List ℕ
asked_line path (asked.Attrs attrs) = []
asked_line path (asked.Fault fault) = fault_text path fault
asked_line path asked.Absent = failure_text path failure.NotFound
asked_line path asked.Failed = failure_text path failure.NotRead

-- that on a file of a listing, which is passed over where it is absent
abbrev pub listed_line : PathBytes → ImportResult → List ℕ
listed_line path asked.Absent = []
listed_line path given = asked_line path given

abbrev pub err_line : Finding → List ℕ
err_line (named path given) = asked_line path given
err_line (listed path given) = listed_line path given
err_line (no_listing path) = failure_text path failure.NotListed

-- whether an asking failed
abbrev pub is_failed : Finding → Bool
is_failed (named path asked.Failed) = true
is_failed (listed path asked.Failed) = true
is_failed (no_listing path) = true
is_failed _ = false

-- whether a named path is absent
abbrev pub is_absent : Finding → Bool
is_absent (named path asked.Absent) = true
is_absent _ = false

-- how the askings ended
abbrev pub end_of : List Finding → End
end_of findings = if list_any is_failed findings then ended.Failed else if list_any is_absent findings then ended.Absent else ended.Ok

-- the attributes that a file gives
abbrev pub given_attrs : ImportResult → Option (List Attr)
given_attrs (asked.Attrs attrs) = Some attrs
given_attrs _ = None

abbrev pub attrs_of : Finding → Option (List Attr)
attrs_of (named path given) = given_attrs given
attrs_of (listed path given) = given_attrs given
attrs_of (no_listing path) = None

-- what stands between the attributes of two files: a zero byte where they are raw
abbrev pub separator : Bool → List ℕ
separator raw = if raw then 0 ∷ [] else []

-- the attributes of the files that give some
abbrev pub shown_text : Bool → List ℕ → List (List ℕ) → List Finding → List ℕ
shown_text raw marker names findings =
    join_by (λ attrs. attrs_text attrs names raw marker) (separator raw) (filter_map attrs_of findings)

-- a line of a path and the number of its attributes
abbrev pub count_text : PathBytes → List Attr → List ℕ
count_text path attrs = escaped path ++ codes ": " ++ decimal (length attrs) ++ codes " attributes\n"

-- such a line for a file that gives attributes
abbrev pub asked_count : PathBytes → ImportResult → List ℕ
asked_count path (asked.Attrs attrs) = count_text path attrs
asked_count path _ = []

abbrev pub count_line : Finding → List ℕ
count_line (named path given) = asked_count path given
count_line (listed path given) = asked_count path given
count_line (no_listing path) = []
