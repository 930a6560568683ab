-- The imports of files that are counted, one after the other.
use Rattle.std.proofs.Common.{◌≡◌, ℕ, ℤ, map, List, [], ◌∷◌, ◌++◌, append-nil, refl, sym, ◌∙◌, ap, Option}
use Rattle.std.specs.List.{zip, flat_map}
use Rattle.std.proofs.lemmas.Grind.{flat_map-append}
use Rattle.std.proofs.lemmas.List.{map-append}
use Rattle.md_value.specs.Values.{PathBytes}
use Rattle.md_source.specs.Tree.{Content}
use Rattle.md_source.specs.declared.tree.Entry.{Entry}
use Rattle.md_files.specs.FileAnswers.{FileAnswer, HasNoFile, IsEntry, IsRead, Gives, import_result}
use Rattle.md_files.specs.Folders.{PathResult, IsFound, IsListed, AreFound, AreRead}
use Rattle.md_files.specs.Folders.PathResult.{file, folder}
use Rattle.md_files.specs.Findings.{Finding, read_findings, found_findings, all_findings, asked_count}
use Rattle.md_files.specs.Findings.Finding.{named, listed}
use Rattle.md_files.specs.Reports.{FileReport, Imports}
use Rattle.md_files.specs.Additions.{no_report, noted, counted_all, CountsFile, CountsFiles, CountsPath}
use Rattle.md_files.specs.declared.asking.ImportResult.{ImportResult}
use Rattle.md_files.proofs.Additions.{counted_one, counted_none, counted_more}
use Rattle.md_files.proofs.Turns.{in_turn_more, zip_more}

module _ (known : Option Content) (before : ℕ) (offset : ℤ) where
  read_more : (between : ℕ) (entries : List Entry) (answers : List FileAnswer) (entry : Entry) (answer : FileAnswer) → AreRead known before between entries answers
      → read_findings offset (entries ++ entry ∷ []) (answers ++ answer ∷ []) ≡ read_findings offset entries answers ++ listed entry.path (import_result offset answer) ∷ []
  read_more between entries answers entry answer turn =
      ap (map (λ (pair : Entry × FileAnswer). listed pair.0.path (import_result offset pair.1))) (zip_more (IsRead known) before between entries answers entry answer turn)
      ∙ map-append (λ (pair : Entry × FileAnswer). listed pair.0.path (import_result offset pair.1)) (zip entries answers) ((entry, answer) ∷ [])

  found_more : (between : ℕ) (paths : List PathBytes) (all : List PathResult) (path : PathBytes) (found : PathResult) → AreFound known before between paths all
      → all_findings offset (paths ++ path ∷ []) (all ++ found ∷ []) ≡ all_findings offset paths all ++ found_findings offset path found
  found_more between paths all path found turn =
      ap (flat_map (λ (pair : PathBytes × PathResult). found_findings offset pair.0 pair.1)) (zip_more (IsFound known) before between paths all path found turn)
      ∙ flat_map-append (λ (pair : PathBytes × PathResult). found_findings offset pair.0 pair.1) (zip paths all) ((path, found) ∷ [])
      ∙ ap (λ (fs : List Finding). all_findings offset paths all ++ fs) (append-nil (found_findings offset path found))

  pub files_none : (old : FileReport) → CountsFiles known before before offset [] old old
  files_none old = record { answers = []; asked = refl; is = counted_none old }

  -- with one file of the listing more
  pub files_more : (between now : ℕ) (entries : List Entry) (old mid : FileReport) (entry : Entry) (given : ImportResult) → CountsFiles known before between offset entries old mid
      → Gives (IsRead known between now entry) offset given
      → CountsFiles known before now offset (entries ++ entry ∷ []) old (noted (record mid { out = mid.out ++ asked_count entry.path given }) (listed entry.path given))
  files_more between now entries old mid entry given so gives =
      let f = listed entry.path (import_result offset gives.answer) in
      record {
        answers = so.answers ++ gives.answer ∷ [];
        asked = in_turn_more (IsRead known) before between now entries so.answers entry gives.answer so.asked gives.answers;
        is =
            rw gives.is
            (counted_one mid f
            ∙ ap (λ (r : FileReport). counted_all r (f ∷ [])) so.is
            ∙ counted_more old (read_findings offset entries so.answers) (f ∷ [])
            ∙ ap (counted_all old) (sym (read_more between entries so.answers entry gives.answer so.asked)));
      }

  -- the file of a path
  pub path_file : (now : ℕ) (path : PathBytes) (entry : Entry) (old new : FileReport) → IsEntry known path entry → CountsFile known before now offset entry old new → CountsPath known before now offset path old new
  path_file now path entry old new is_entry so =
      record {
        found = file so.answer;
        asked = (entry, is_entry, so.asked);
        is = so.is ∙ counted_one old (named entry.path (import_result offset so.answer)) ∙ ap (λ (p : PathBytes). counted_all old (named p (import_result offset so.answer) ∷ [])) is_entry.named;
      }

  -- the files below the folder of a path
  pub path_folder : (now : ℕ) (path : PathBytes) (entries : List Entry) (old new : FileReport) → HasNoFile known path → IsListed known path entries → CountsFiles known before now offset entries old new
      → CountsPath known before now offset path old new
  path_folder now path entries old new none listing so = record { found = folder entries so.answers; asked = (none, listing, so.asked); is = so.is }

  pub imports_none : Imports known before before offset [] no_report
  imports_none = record { found = []; asked = refl; is = refl }

  -- with one path more
  pub imports_more : (between now : ℕ) (paths : List PathBytes) (mid new : FileReport) (path : PathBytes) → Imports known before between offset paths mid → CountsPath known between now offset path mid new
      → Imports known before now offset (paths ++ path ∷ []) new
  imports_more between now paths mid new path so counts =
      record {
        found = so.found ++ counts.found ∷ [];
        asked = in_turn_more (IsFound known) before between now paths so.found path counts.found so.asked counts.asked;
        is =
            counts.is
            ∙ ap (λ (r : FileReport). counted_all r (found_findings offset path counts.found)) so.is
            ∙ counted_more no_report (all_findings offset paths so.found) (found_findings offset path counts.found)
            ∙ ap (counted_all no_report) (sym (found_more between paths so.found path counts.found so.asked));
      }
