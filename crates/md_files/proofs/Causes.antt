-- The causes of the ends.
use Rattle.std.proofs.Common.{◌≡◌, ℕ, ℤ, Bool, true, false, ◌&&◌, ◌||◌, ◌+◌, ◌-◌, ◌^◌, ◌≤◌, min, List, [], ◌∷◌, refl, sym, ◌∙◌, ap, subst, Option, Some, None, IfSome, Result, Ok, Err, arith}
use Rattle.std.specs.List.{list_any}
use Rattle.std.specs.Option.{option_map}
use Rattle.std.proofs.lemmas.List.Folds.{list_any-append}
use Rattle.md_value.specs.Values.{PathBytes}
use Rattle.md_value.specs.Attrs.{Attr}
use Rattle.md_value.specs.declared.fault.Fault.{Fault}
use Rattle.md_source.specs.Causes.{Rose}
use Rattle.md_source.specs.Tree.{Content, File, file_at}
use Rattle.md_source.specs.declared.tree.Entry.{Entry}
use Rattle.imp_kind.specs.Imports.{import}
use Rattle.md_files.specs.FileAnswers.{FileAnswer, IsRead, AreAsked, IsCounted, of_import, import_result, failures}
use Rattle.md_files.specs.FileAnswers.FileAnswer.{given, absent, failed}
use Rattle.md_files.specs.Folders.{PathResult, IsFound, AreFound, AreRead, found_failures, all_failures}
use Rattle.md_files.specs.Folders.PathResult.{file, unfound, folder, unlisted, nothing}
use Rattle.md_files.specs.Findings.{asked_findings, read_findings, found_findings, all_findings, is_failed, is_absent, end_of}
use Rattle.md_files.specs.Findings.Finding.{named, listed}
use Rattle.md_files.specs.Reports.{FileReport, Shows, Imports, EndHasCause, tells_file, tells, tells_files, tells_all}
use Rattle.md_files.specs.declared.report.End.{End}
use Rattle.md_files.specs.declared.report.End.TheVariants as ended
use Rattle.md_files.proofs.Additions.{end_by}
use Rattle.md_files.proofs.Counting.{first_failures, read_counted, turn_counted, are_asked_counted, are_found_counted}

-- whether there are some
record Tells (some : Bool) (count : ℕ) : Type 0 where
  pub none : some ≡ false → count ≡ 0
  pub any : some ≡ true → 1 ≤ count

tells_or : (b c : Bool) (m n : ℕ) → Tells b m → Tells c n → Tells (b || c) (m + n)
tells_or true c m n h k = record { none = λ e. cc; any = λ e. omega (arith, h.any refl) }
tells_or false true m n h k = record { none = λ e. cc; any = λ e. omega (arith, k.any refl) }
tells_or false false m n h k = record { none = λ e. omega (arith, h.none refl, k.none refl); any = λ e. cc }

tells_none : Tells false 0
tells_none = record { none = λ e. refl; any = λ e. cc }

tells_one : Tells true 1
tells_one = record { none = λ e. cc; any = λ e. omega arith }

pub quiet_named : (path : PathBytes) (given : Result (List Attr) Fault) → is_failed (named path (of_import given)) ≡ false
quiet_named path (Ok attrs) = refl
quiet_named path (Err fault) = refl

quiet_listed : (path : PathBytes) (given : Result (List Attr) Fault) → is_failed (listed path (of_import given)) ≡ false
quiet_listed path (Ok attrs) = refl
quiet_listed path (Err fault) = refl

pub there_named : (path : PathBytes) (given : Result (List Attr) Fault) → is_absent (named path (of_import given)) ≡ false
there_named path (Ok attrs) = refl
there_named path (Err fault) = refl

there_listed : (entries : List Entry) (answers : List FileAnswer) (offset : ℤ) → list_any is_absent (read_findings offset entries answers) ≡ false
there_listed [] answers offset = refl
there_listed (entry ∷ entries) [] offset = refl
there_listed (entry ∷ entries) (answer ∷ answers) offset = there_listed entries answers offset

or_false : (b : Bool) → (b || false) ≡ b
or_false true = refl
or_false false = refl

module _ (offset : ℤ) where
  named_tells : (path : PathBytes) (answer : FileAnswer) → Tells (is_failed (named path (import_result offset answer))) (failures (answer ∷ []))
  named_tells path (given entry bytes) = rw (quiet_named path (import entry bytes offset)) tells_none
  named_tells path absent = tells_none
  named_tells path failed = tells_one

  listed_tells : (path : PathBytes) (answer : FileAnswer) → Tells (is_failed (listed path (import_result offset answer))) (failures (answer ∷ []))
  listed_tells path (given entry bytes) = rw (quiet_listed path (import entry bytes offset)) tells_none
  listed_tells path absent = tells_none
  listed_tells path failed = tells_one

  asked_tells : (known : Option Content) (before now : ℕ) (paths : List PathBytes) (answers : List FileAnswer) → AreAsked known before now paths answers
      → Tells (list_any is_failed (asked_findings offset paths answers)) (failures answers)
  asked_tells known before now [] [] kept = tells_none
  asked_tells known before now [] (answer ∷ answers) none = absurd none
  asked_tells known before now (path ∷ paths) [] none = absurd none
  asked_tells known before now (path ∷ paths) (answer ∷ answers) turn =
      rw (sym (first_failures answer answers))
      (tells_or (is_failed (named path (import_result offset answer))) (list_any is_failed (asked_findings offset paths answers)) (failures (answer ∷ [])) (failures answers)
      (named_tells path answer) (asked_tells known turn.0 now paths answers turn.2))

  read_tells : (known : Option Content) (before now : ℕ) (entries : List Entry) (answers : List FileAnswer) → AreRead known before now entries answers
      → Tells (list_any is_failed (read_findings offset entries answers)) (failures answers)
  read_tells known before now [] [] kept = tells_none
  read_tells known before now [] (answer ∷ answers) none = absurd none
  read_tells known before now (entry ∷ entries) [] none = absurd none
  read_tells known before now (entry ∷ entries) (answer ∷ answers) turn =
      rw (sym (first_failures answer answers))
      (tells_or (is_failed (listed entry.path (import_result offset answer))) (list_any is_failed (read_findings offset entries answers)) (failures (answer ∷ [])) (failures answers)
      (listed_tells entry.path answer) (read_tells known turn.0 now entries answers turn.2))

  found_tells : (known : Option Content) (before now : ℕ) (path : PathBytes) (found : PathResult) → IsFound known before now path found → Tells (list_any is_failed (found_findings offset path found)) (found_failures found)
  found_tells known before now path (file answer) asked = rw (or_false (is_failed (named path (import_result offset answer)))) (named_tells path answer)
  found_tells known before now path unfound asked = tells_one
  found_tells known before now path (folder entries answers) asked = read_tells known before now entries answers asked.2
  found_tells known before now path unlisted asked = tells_one
  found_tells known before now path nothing asked = tells_none

  all_tells : (known : Option Content) (before now : ℕ) (paths : List PathBytes) (found : List PathResult) → AreFound known before now paths found
      → Tells (list_any is_failed (all_findings offset paths found)) (all_failures found)
  all_tells known before now [] [] kept = tells_none
  all_tells known before now [] (f ∷ found) none = absurd none
  all_tells known before now (path ∷ paths) [] none = absurd none
  all_tells known before now (path ∷ paths) (f ∷ found) turn =
      rw (list_any-append is_failed (found_findings offset path f) (all_findings offset paths found))
      (tells_or (list_any is_failed (found_findings offset path f)) (list_any is_failed (all_findings offset paths found)) (found_failures f) (all_failures found)
      (found_tells known before turn.0 path f turn.1) (all_tells known turn.0 now paths found turn.2))

rose_one : (most before now n : ℕ) → 1 ≤ n → min (before + n) most ≤ now → min (before + 1) most ≤ now
rose_one most before now n some rose = omega arith

cause_by : (before now n : ℕ) (some none : Bool) → IsCounted before now n → Tells some n → EndHasCause before now (end_by some none)
cause_by before now n true none counted tells = (counted.later, rose_one (2 ^ 64 - 1) before now n (tells.any refl) counted.rose)
cause_by before now n false true counted tells = counted.kept (tells.none refl)
cause_by before now n false false counted tells = counted.kept (tells.none refl)

pub and_false : (b c : Bool) → c ≡ false → (b && c) ≡ false
and_false true c e = e
and_false false c e = refl

pub not_true : (b : Bool) → b ≡ false → b ≡ true → ⊥
not_true b e h = cc

pub is_absent_end : (some none : Bool) → end_by some none ≡ ended.Absent → none ≡ true
is_absent_end true none is = cc
is_absent_end false true is = refl
is_absent_end false false is = cc

-- where nothing failed and all is known, nothing is absent
pub complete_end : (before now : ℕ) (end : End) (known : Bool) → EndHasCause before now end → (end ≡ ended.Absent → known ≡ false) → known ≡ true → ¬ (Rose before now) → end ≡ ended.Ok
complete_end before now ended.Ok known cause present is quiet = refl
complete_end before now ended.Failed known cause present is quiet = absurd (quiet cause.1)
complete_end before now ended.Absent known cause present is quiet = absurd (not_true known (present refl) is)

gone : (o : Option File) (entry : Entry) → o ≡ None → option_map (λ (f : File). f.0) o ≡ Some entry → ⊥
gone None entry none some = cc
gone (Some f) entry none some = cc

module _ (content : Content) (offset : ℤ) where
  absent_present : (before now : ℕ) (paths : List PathBytes) (answers : List FileAnswer) → AreAsked (Some content) before now paths answers
      → list_any is_absent (asked_findings offset paths answers) ≡ true → tells_files content paths ≡ false
  absent_present before now [] [] kept is = cc
  absent_present before now [] (answer ∷ answers) none is = absurd none
  absent_present before now (path ∷ paths) [] none is = absurd none
  absent_present before now (path ∷ paths) (given entry bytes ∷ answers) turn is =
      and_false (tells_file content path) (tells_files content paths) (absent_present turn.0 now paths answers turn.2 (rw (there_named path (import entry bytes offset)) at is))
  absent_present before now (path ∷ paths) (absent ∷ answers) turn is = rw turn.1.1 refl
  absent_present before now (path ∷ paths) (failed ∷ answers) turn is =
      and_false (tells_file content path) (tells_files content paths) (absent_present turn.0 now paths answers turn.2 is)

  found_present : (before now : ℕ) (path : PathBytes) (found : PathResult) → IsFound (Some content) before now path found
      → list_any is_absent (found_findings offset path found) ≡ true → tells content path ≡ false
  found_present before now path (file (given entry bytes)) asked is = absurd (not_true _ (or_false _ ∙ there_named path (import entry bytes offset)) is)
  found_present before now path (file absent) asked is =
      let none : file_at content.files path ≡ None = subst (λ (p : PathBytes). file_at content.files p ≡ None) asked.1.named asked.2.2 in
      absurd (gone (file_at content.files path) asked.0 none asked.1.agrees)
  found_present before now path (file failed) asked is = cc
  found_present before now path unfound asked is = cc
  found_present before now path (folder entries answers) asked is = absurd (not_true _ (there_listed entries answers offset) is)
  found_present before now path unlisted asked is = cc
  found_present before now path nothing asked is = rw (asked.1, asked.2) refl

  or_true : (b c : Bool) → (b || c) ≡ true → b ≡ false → c ≡ true
  or_true true c is none = cc
  or_true false c is none = is

  all_present : (before now : ℕ) (paths : List PathBytes) (found : List PathResult) → AreFound (Some content) before now paths found
      → list_any is_absent (all_findings offset paths found) ≡ true → tells_all content paths ≡ false
  all_present before now [] [] kept is = cc
  all_present before now [] (f ∷ found) none is = absurd none
  all_present before now (path ∷ paths) [] none is = absurd none
  all_present before now (path ∷ paths) (f ∷ found) turn is =
      elim (list_any is_absent (found_findings offset path f)) as (λ b. list_any is_absent (found_findings offset path f) ≡ b → tells_all content (path ∷ paths) ≡ false) [
        | true ↦ λ here. rw (found_present before turn.0 path f turn.1 here) refl
        | false ↦
            λ here.
            let joined = sym (list_any-append is_absent (found_findings offset path f) (all_findings offset paths found)) ∙ is in
            and_false (tells content path) (tells_all content paths) (all_present turn.0 now paths found turn.2 (or_true (list_any is_absent (found_findings offset path f)) (list_any is_absent (all_findings offset paths found)) joined here))
      ] refl

module _ (before now : ℕ) (offset : ℤ) (raw : Bool) (marker : List ℕ) (names : List (List ℕ)) (paths : List PathBytes) (report : FileReport) where
  pub shows_cause : (known : Option Content) → Shows known before now offset raw marker names paths report → EndHasCause before now report.end
  shows_cause known shows =
      rw shows.is
      (cause_by before now (failures shows.answers) (list_any is_failed (asked_findings offset paths shows.answers)) (list_any is_absent (asked_findings offset paths shows.answers))
      (are_asked_counted known before now paths shows.answers shows.asked) (asked_tells offset known before now paths shows.answers shows.asked))

  shows_present : (content : Content) → Shows (Some content) before now offset raw marker names paths report → report.end ≡ ended.Absent → tells_files content paths ≡ false
  shows_present content shows is =
      absent_present content offset before now paths shows.answers shows.asked
      (is_absent_end (list_any is_failed (asked_findings offset paths shows.answers)) (list_any is_absent (asked_findings offset paths shows.answers)) (ap (λ (r : FileReport). r.end) (sym shows.is) ∙ is))

  pub shows_absent : (known : Option Content) → Shows known before now offset raw marker names paths report → IfSome known (λ content. report.end ≡ ended.Absent → tells_files content paths ≡ false)
  shows_absent None shows = tt
  shows_absent (Some content) shows = shows_present content shows

  pub shows_complete : (known : Option Content) → Shows known before now offset raw marker names paths report
      → IfSome known (λ content. tells_files content paths ≡ true → ¬ (Rose before now) → report.end ≡ ended.Ok)
  shows_complete None shows = tt
  shows_complete (Some content) shows = λ known quiet. complete_end before now report.end (tells_files content paths) (shows_cause (Some content) shows) (shows_present content shows) known quiet

module _ (before now : ℕ) (offset : ℤ) (paths : List PathBytes) (report : FileReport) where
  pub imports_cause : (known : Option Content) → Imports known before now offset paths report → EndHasCause before now report.end
  imports_cause known imports =
      rw imports.is
      (cause_by before now (all_failures imports.found) (list_any is_failed (all_findings offset paths imports.found)) (list_any is_absent (all_findings offset paths imports.found))
      (are_found_counted known before now paths imports.found imports.asked) (all_tells offset known before now paths imports.found imports.asked))

  imports_present : (content : Content) → Imports (Some content) before now offset paths report → report.end ≡ ended.Absent → tells_all content paths ≡ false
  imports_present content imports is =
      all_present content offset before now paths imports.found imports.asked
      (is_absent_end (list_any is_failed (all_findings offset paths imports.found)) (list_any is_absent (all_findings offset paths imports.found)) (ap (λ (r : FileReport). r.end) (sym imports.is) ∙ is))

  pub imports_absent : (known : Option Content) → Imports known before now offset paths report → IfSome known (λ content. report.end ≡ ended.Absent → tells_all content paths ≡ false)
  imports_absent None imports = tt
  imports_absent (Some content) imports = imports_present content imports

  pub imports_complete : (known : Option Content) → Imports known before now offset paths report
      → IfSome known (λ content. tells_all content paths ≡ true → ¬ (Rose before now) → report.end ≡ ended.Ok)
  imports_complete None imports = tt
  imports_complete (Some content) imports = λ known quiet. complete_end before now report.end (tells_all content paths) (imports_cause (Some content) imports) (imports_present content imports) known quiet

module _ (offset : ℤ) (entries : List Entry) (answers : List FileAnswer) where
  -- the files of a listing that failed are counted
  pub read_cause : (known : Option Content) (before now : ℕ) → AreRead known before now entries answers → EndHasCause before now (end_of (read_findings offset entries answers))
  read_cause known before now asked =
      cause_by before now (failures answers) (list_any is_failed (read_findings offset entries answers)) (list_any is_absent (read_findings offset entries answers))
      (turn_counted (IsRead known) (read_counted known) before now entries answers asked) (read_tells offset known before now entries answers asked)

  -- and none of them is a named path
  pub read_there : end_of (read_findings offset entries answers) ≡ ended.Absent → ⊥
  read_there is =
      not_true _ (there_listed entries answers offset)
      (is_absent_end (list_any is_failed (read_findings offset entries answers)) (list_any is_absent (read_findings offset entries answers)) is)
