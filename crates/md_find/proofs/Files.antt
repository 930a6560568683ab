-- What a search makes of files: the hits among their rows, and what became of those that give no attributes.
use Rattle.std.proofs.Common.{◌≡◌, Bool, true, false, ◌||◌, if◌then◌else◌, List, [], ◌∷◌, ◌++◌, map, filter, refl, ◌∙◌, ap, All, Result, Ok, IfOk}
use Rattle.std.specs.List.{cons_option, filter_map, flat_map, list_any, AllZip}
use Rattle.std.specs.declared.alloc.AllocError.{AllocError}
use Rattle.std.proofs.lemmas.List.Elements.{All-nil, All-cons, All-head, All-tail}
use Rattle.md_value.specs.Values.{PathBytes, IsMoment}
use Rattle.md_source.specs.declared.tree.Entry.{Entry}
use Rattle.md_world.specs.declared.Row.{Row}
use Rattle.md_world.specs.Differences.{paths_of}
use Rattle.md_match.specs.Conditions.{Condition, passes}
use Rattle.md_files.specs.FileAnswers.{import_result}
use Rattle.md_files.specs.Findings.{Finding, read_findings, err_line, is_failed, is_absent}
use Rattle.md_files.specs.Findings.Finding.{listed}
use Rattle.md_files.specs.Additions.{worse}
use Rattle.md_files.specs.Reports.{FileReport}
use Rattle.md_files.specs.declared.asking.ImportResult.{ImportResult}
use Rattle.md_files.specs.declared.asking.ImportResult.TheVariants as asked
use Rattle.md_files.specs.declared.report.End.TheVariants as ended
use Rattle.md_find.specs.declared.reading.ReadFile.{ReadFile}
use Rattle.md_find.specs.declared.testing.Seen.TheVariants as seen
use Rattle.md_find.specs.declared.testing.SeenFile.{SeenFile}
use Rattle.md_find.specs.Files.{row_of, table_of, answer_of, answers_of, entries_of, seen_as, seen_file, hit_at, hit_of, reason_at, reason_of}
use Rattle.md_find.specs.Notes.{noted_all}

-- two lists of findings of which the same is printed
record Alike (some others : List Finding) : Type 0 where
  pub lines : flat_map err_line some ≡ flat_map err_line others
  pub failed : list_any is_failed some ≡ list_any is_failed others
  pub absent : list_any is_absent some ≡ list_any is_absent others

alike_cons : (finding : Finding) (some others : List Finding) → Alike some others → Alike (finding ∷ some) (finding ∷ others)
alike_cons finding some others alike =
    record {
      lines = ap (λ text. err_line finding ++ text) alike.lines;
      failed = ap (λ is. is_failed finding || is) alike.failed;
      absent = ap (λ is. is_absent finding || is) alike.absent;
    }

module _ (condition : Condition) where
  alike_more : (path : PathBytes) (given : ImportResult) (some others : List Finding) → Alike some others
      → Alike (cons_option (reason_at path (seen_as condition path given)) some) (listed path given ∷ others)
  alike_more path (asked.Attrs attrs) some others alike = record { lines = alike.lines; failed = alike.failed; absent = alike.absent }
  alike_more path (asked.Fault fault) some others alike = alike_cons (listed path (asked.Fault fault)) some others alike
  alike_more path asked.Absent some others alike = alike_cons (listed path asked.Absent) some others alike
  alike_more path asked.Failed some others alike = alike_cons (listed path asked.Failed) some others alike

  alike_seen : (files : List ReadFile) → Alike (filter_map reason_of (map (seen_file condition) files)) (read_findings condition.offset (entries_of files) (answers_of files))
  alike_seen [] = record { lines = refl; failed = refl; absent = refl }
  alike_seen (file ∷ files) = alike_more file.entry.path (import_result condition.offset (answer_of file)) _ _ (alike_seen files)

  -- what became of those that give no attributes is all that is printed of files that were read
  pub noted_seen : (report : FileReport) (files : List ReadFile)
      → noted_all report (filter_map reason_of (map (seen_file condition) files)) ≡ noted_all report (read_findings condition.offset (entries_of files) (answers_of files))
  noted_seen report files =
      let alike = alike_seen files in
      λ i. record {
        end = worse report.end (if alike.failed i then ended.Failed else if alike.absent i then ended.Absent else ended.Ok);
        out = report.out;
        err = report.err ++ alike.lines i;
      }

  tested : (row : Row) (rows : List Row) (b : Bool) → passes condition row ≡ b
      → cons_option (hit_at row.path (seen.Tested (passes condition row))) (paths_of (filter (passes condition) rows)) ≡ paths_of (filter (passes condition) (row ∷ rows))
  tested row rows true is = rw is refl
  tested row rows false is = rw is refl

  hits_more : (path : PathBytes) (given : ImportResult) (rows : List Row)
      → cons_option (hit_at path (seen_as condition path given)) (paths_of (filter (passes condition) rows)) ≡ paths_of (filter (passes condition) (cons_option (row_of path given) rows))
  hits_more path (asked.Attrs attrs) rows = tested (record { path = path; attrs = attrs }) rows (passes condition (record { path = path; attrs = attrs })) refl
  hits_more path (asked.Fault fault) rows = refl
  hits_more path asked.Absent rows = refl
  hits_more path asked.Failed rows = refl

  -- the hits among files that were read are the paths of the rows that pass
  pub hits_seen : (files : List ReadFile)
      → filter_map hit_of (map (seen_file condition) files) ≡ paths_of (filter (passes condition) (table_of condition.offset (entries_of files) (answers_of files)))
  hits_seen [] = refl
  hits_seen (file ∷ files) =
      let given = import_result condition.offset (answer_of file) in
      ap (cons_option (hit_at file.entry.path (seen_as condition file.entry.path given))) (hits_seen files)
      ∙ hits_more file.entry.path given (table_of condition.offset (entries_of files) (answers_of files))

  -- what a search makes of each file, as one list
  pub all_seen : (files : List ReadFile) (made : List SeenFile) → AllZip (λ file (one : Result SeenFile AllocError). IfOk one (λ m. m ≡ seen_file condition file)) files (map Ok made) → made ≡ map (seen_file condition) files
  all_seen [] [] h = refl
  all_seen [] (m ∷ made) h = absurd h
  all_seen (file ∷ files) [] h = absurd h
  all_seen (file ∷ files) (m ∷ made) h = rw (h.0, all_seen files made h.1) refl

-- each file between others was changed at a moment
pub moments_read : (entries : List Entry) (files : List ReadFile) (rest : List Entry) → All (λ entry. IsMoment entry.changed) (entries ++ (entries_of files ++ rest)) → All (λ file. IsMoment file.entry.changed) files
moments_read (entry ∷ entries) files rest h = moments_read entries files rest (All-tail (λ (e : Entry). IsMoment e.changed) entry (entries ++ (entries_of files ++ rest)) h)
moments_read [] [] rest h = All-nil (λ (file : ReadFile). IsMoment file.entry.changed)
moments_read [] (file ∷ files) rest h =
    All-cons (λ (f : ReadFile). IsMoment f.entry.changed) file files (All-head (λ (entry : Entry). IsMoment entry.changed) file.entry (entries_of files ++ rest) h)
    (moments_read [] files rest (All-tail (λ (entry : Entry). IsMoment entry.changed) file.entry (entries_of files ++ rest) h))
