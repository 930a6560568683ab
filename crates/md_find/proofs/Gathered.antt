-- Files that are gathered in batches, and what is found among them.
use Rattle.std.proofs.Common.{◌≡◌, ℕ, List, [], ◌++◌, map, filter, sym, ◌∙◌, ap, Option}
use Rattle.std.proofs.lemmas.List.{map-append}
use Rattle.std.proofs.lemmas.List.Elements.{filter-append}
use Rattle.std.specs.List.{filter_map}
use Rattle.md_value.specs.Values.{PathBytes}
use Rattle.md_source.specs.Tree.{Content}
use Rattle.md_source.specs.declared.tree.Entry.{Entry}
use Rattle.md_world.specs.declared.Row.{Row}
use Rattle.md_world.specs.Differences.{paths_of}
use Rattle.md_match.specs.Conditions.{Condition, passes}
use Rattle.md_files.specs.Additions.{no_report}
use Rattle.md_files.specs.FileAnswers.{FileAnswer, IsRead}
use Rattle.md_files.specs.Findings.{read_findings}
use Rattle.md_files.specs.Folders.{AreRead}
use Rattle.md_files.specs.Reports.{FileReport, report_of}
use Rattle.md_find.specs.declared.reading.ReadFile.{ReadFile}
use Rattle.md_find.specs.Files.{table_of, answers_of, entries_of, seen_file, hit_of, reason_of}
use Rattle.md_find.specs.Notes.{noted_all}
use Rattle.md_find.proofs.Files.{hits_seen, noted_seen}
use Rattle.md_find.proofs.Joins.{in_turn_join, findings_join, table_join}
use Rattle.md_find.proofs.Notes.{noted_join}

-- the paths of the rows that pass
abbrev pub passing : Condition → List Row → List PathBytes
passing condition rows = paths_of (filter (passes condition) rows)

passing_join : (condition : Condition) (rows others : List Row) → passing condition (rows ++ others) ≡ passing condition rows ++ passing condition others
passing_join condition rows others =
    ap paths_of (filter-append (passes condition) rows others) ∙ map-append (λ (row : Row). row.path) (filter (passes condition) rows) (filter (passes condition) others)

-- files were asked for in turn, what became of each is reported, and these are the paths of the rows that pass
pub record Gathers (known : Option Content) (before now : ℕ) (condition : Condition) (entries : List Entry) (report : FileReport) (hits : List PathBytes) : Type 0 where
  pub answers : List FileAnswer
  pub asked : AreRead known before now entries answers
  pub noted : report ≡ report_of [] (read_findings condition.offset entries answers)
  pub found : hits ≡ passing condition (table_of condition.offset entries answers)

-- with one batch more
module _ (known : Option Content) (before between now : ℕ) (condition : Condition) (entries : List Entry) (old : FileReport) (kept : List PathBytes) (gathers : Gathers known before between condition entries old kept) where
  pub gathers_more : (files : List ReadFile) (new : FileReport) (hits : List PathBytes) → AreRead known between now (entries_of files) (answers_of files)
      → new ≡ noted_all old (filter_map reason_of (map (seen_file condition) files)) → hits ≡ kept ++ filter_map hit_of (map (seen_file condition) files)
      → Gathers known before now condition (entries ++ entries_of files) new hits
  gathers_more files new hits read is_new is_hits =
      let offset = condition.offset in
      let answers = gathers.answers in
      let batch = entries_of files in
      let others = answers_of files in
      let earlier = read_findings offset entries answers in
      let later = read_findings offset batch others in
      let joined = findings_join known before between offset entries answers batch others gathers.asked in
      let table = table_join known before between offset entries answers batch others gathers.asked in
      let both = passing_join condition (table_of offset entries answers) (table_of offset batch others) in
      let prefix = ap (λ (paths : List PathBytes). paths ++ filter_map hit_of (map (seen_file condition) files)) gathers.found in
      let rest = ap (λ (paths : List PathBytes). passing condition (table_of offset entries answers) ++ paths) (hits_seen condition files) in
      record {
        answers = answers ++ others;
        asked = in_turn_join (IsRead known) between before now entries answers batch others gathers.asked read;
        noted = is_new ∙ noted_seen condition old files ∙ ap (λ (r : FileReport). noted_all r later) gathers.noted ∙ noted_join no_report earlier later ∙ ap (report_of []) (sym joined);
        found = is_hits ∙ prefix ∙ rest ∙ sym both ∙ ap (passing condition) (sym table);
      }
