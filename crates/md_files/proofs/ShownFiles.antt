-- The attributes of files that are shown, one file after the other.
use Rattle.std.proofs.Common.{◌≡◌, ℕ, ℤ, Bool, true, false, ◌||◌, ◌&&◌, cond, is_some, map, List, [], ◌∷◌, ◌++◌, append_assoc, append-nil, refl, ◌∙◌, ap, Option}
use Rattle.std.specs.List.{zip, flat_map, join_by, filter_map}
use Rattle.std.proofs.lemmas.Grind.{flat_map-append}
use Rattle.std.proofs.lemmas.List.{map-append}
use Rattle.std.proofs.lemmas.List.Elements.{filter_map-append}
use Rattle.md_value.specs.Attrs.{Attr}
use Rattle.md_value.specs.Values.{PathBytes}
use Rattle.md_source.specs.Tree.{Content}
use Rattle.md_file_text.specs.Attributes.{attrs_text}
use Rattle.md_files.specs.FileAnswers.{FileAnswer, IsAsked, AreAsked, Gives, import_result}
use Rattle.md_files.specs.Findings.{Finding, asked_findings, err_line, separator, shown_text, given_attrs, attrs_of}
use Rattle.md_files.specs.Findings.Finding.{named}
use Rattle.md_files.specs.Reports.{FileReport, Shows, report_of, shown}
use Rattle.md_files.specs.Additions.{no_report, noted, next_text}
use Rattle.md_files.specs.declared.asking.ImportResult.{ImportResult}
use Rattle.md_files.specs.declared.asking.ImportResult.TheVariants as asked
use Rattle.md_files.proofs.Additions.{end_of-append}
use Rattle.md_files.proofs.Turns.{in_turn_more, zip_more}

abbrev pub has_some : {X : Type 0} → List X → Bool
has_some [] = false
has_some (x ∷ xs) = true

has_some-append : {X : Type 0} (xs ys : List X) → has_some (xs ++ ys) ≡ (has_some xs || has_some ys)
has_some-append [] ys = refl
has_some-append (x ∷ xs) ys = refl

join_by_more : {X : Type 0} (f : X → List ℕ) (sep : List ℕ) (xs : List X) (x : X) → join_by f sep (xs ++ x ∷ []) ≡ join_by f sep xs ++ (cond (has_some xs) sep [] ++ f x)
join_by_more f sep [] x = append-nil (f x)
join_by_more f sep (y ∷ ys) x =
    rw (flat_map-append (λ z. sep ++ f z) ys (x ∷ []), append-nil (sep ++ f x), append_assoc (f y) (flat_map (λ z. sep ++ f z) ys) (sep ++ f x)) refl

separator_by : (some raw : Bool) → separator (some && raw) ≡ cond some (separator raw) []
separator_by true raw = refl
separator_by false raw = refl

module _ (raw : Bool) (marker : List ℕ) (names : List (List ℕ)) where
  text_of : List Attr → List ℕ
  text_of attrs = attrs_text attrs names raw marker

  joined_more : (all : List (List Attr)) (attrs : List Attr) → join_by (λ a. attrs_text a names raw marker) (separator raw) all ++ (separator (has_some all && raw) ++ attrs_text attrs names raw marker)
      ≡ join_by (λ a. attrs_text a names raw marker) (separator raw) (all ++ attrs ∷ [])
  joined_more all attrs = rw (separator_by (has_some all) raw, join_by_more (λ a. attrs_text a names raw marker) (separator raw) all attrs) refl

  -- the text with that of one file more
  text_more : (fs : List Finding) (path : PathBytes) (given : ImportResult) → shown_text raw marker names fs ++ next_text (has_some (filter_map attrs_of fs)) raw marker names given
      ≡ shown_text raw marker names (fs ++ named path given ∷ [])
  text_more fs path (asked.Attrs attrs) = rw (filter_map-append attrs_of fs (named path (asked.Attrs attrs) ∷ [])) (joined_more (filter_map attrs_of fs) attrs)
  text_more fs path (asked.Fault fault) = rw (filter_map-append attrs_of fs (named path (asked.Fault fault) ∷ []), append-nil (filter_map attrs_of fs)) (append-nil _)
  text_more fs path asked.Absent = rw (filter_map-append attrs_of fs (named path asked.Absent ∷ []), append-nil (filter_map attrs_of fs)) (append-nil _)
  text_more fs path asked.Failed = rw (filter_map-append attrs_of fs (named path asked.Failed ∷ []), append-nil (filter_map attrs_of fs)) (append-nil _)

  report_more : (fs : List Finding) (path : PathBytes) (given : ImportResult) →
      noted (record (report_of (shown_text raw marker names fs) fs) { out = shown_text raw marker names fs ++ next_text (has_some (filter_map attrs_of fs)) raw marker names given }) (named path given)
      ≡ report_of (shown_text raw marker names (fs ++ named path given ∷ [])) (fs ++ named path given ∷ [])
  report_more fs path given =
      rw (text_more fs path given, end_of-append fs (named path given ∷ []), flat_map-append err_line fs (named path given ∷ []), append-nil (err_line (named path given))) refl

some_more : (fs : List Finding) (path : PathBytes) (given : ImportResult) → (has_some (filter_map attrs_of fs) || is_some (given_attrs given)) ≡ has_some (filter_map attrs_of (fs ++ named path given ∷ []))
some_more fs path given = rw (filter_map-append attrs_of fs (named path given ∷ []), has_some-append (filter_map attrs_of fs) (filter_map attrs_of (named path given ∷ []))) (ap (λ b. has_some (filter_map attrs_of fs) || b) (one given))
  where
    one : (given : ImportResult) → is_some (given_attrs given) ≡ has_some (filter_map attrs_of (named path given ∷ []))
    one (asked.Attrs attrs) = refl
    one (asked.Fault fault) = refl
    one asked.Absent = refl
    one asked.Failed = refl

-- some files were shown, and some of them gave attributes or none did
pub record IsShowing (known : Option Content) (before now : ℕ) (offset : ℤ) (raw : Bool) (marker : List ℕ) (names : List (List ℕ)) (paths : List PathBytes) (report : FileReport) (some : Bool) : Type 0 where
  pub answers : List FileAnswer
  pub asked : AreAsked known before now paths answers
  pub is : report ≡ shown offset raw marker names paths answers
  pub some_is : some ≡ has_some (filter_map attrs_of (asked_findings offset paths answers))

pub shows_so : {known : Option Content} {before now : ℕ} {offset : ℤ} {raw : Bool} {marker : List ℕ} {names : List (List ℕ)} {paths : List PathBytes} {report : FileReport} {some : Bool} →
    IsShowing known before now offset raw marker names paths report some → Shows known before now offset raw marker names paths report
shows_so so = record { answers = so.answers; asked = so.asked; is = so.is }

module _ (known : Option Content) (before : ℕ) (offset : ℤ) (raw : Bool) (marker : List ℕ) (names : List (List ℕ)) where
  pub showing_none : IsShowing known before before offset raw marker names [] no_report false
  showing_none = record { answers = []; asked = refl; is = refl; some_is = refl }

  findings_more : (between : ℕ) (paths : List PathBytes) (answers : List FileAnswer) (path : PathBytes) (answer : FileAnswer) → AreAsked known before between paths answers
      → asked_findings offset (paths ++ path ∷ []) (answers ++ answer ∷ []) ≡ asked_findings offset paths answers ++ named path (import_result offset answer) ∷ []
  findings_more between paths answers path answer turn =
      ap (map (λ (pair : PathBytes × FileAnswer). named pair.0 (import_result offset pair.1))) (zip_more (IsAsked known) before between paths answers path answer turn)
      ∙ map-append (λ (pair : PathBytes × FileAnswer). named pair.0 (import_result offset pair.1)) (zip paths answers) ((path, answer) ∷ [])

  -- with one file more
  pub showing_more : (between now : ℕ) (paths : List PathBytes) (report : FileReport) (some : Bool) (path : PathBytes) (given : ImportResult) → IsShowing known before between offset raw marker names paths report some
      → Gives (IsAsked known between now path) offset given
      → IsShowing known before now offset raw marker names (paths ++ path ∷ []) (noted (record report { out = report.out ++ next_text some raw marker names given }) (named path given)) (some || is_some (given_attrs given))
  showing_more between now paths report some path given so gives =
      let fs = asked_findings offset paths so.answers in
      let more = findings_more between paths so.answers path gives.answer so.asked in
      record {
        answers = so.answers ++ gives.answer ∷ [];
        asked = in_turn_more (IsAsked known) before between now paths so.answers path gives.answer so.asked gives.answers;
        is = rw (so.is, so.some_is, gives.is, more) (report_more raw marker names fs path (import_result offset gives.answer));
        some_is = rw (so.some_is, gives.is, more) (some_more fs path (import_result offset gives.answer));
      }
