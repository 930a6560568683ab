-- Records that are read one after another, and a text without its byte order mark.
use Rattle.std.proofs.Common.{◌≡◌, ◌≢◌, ℕ, ◌+◌, ◌-◌, ◌<◌, ◌≤◌, ◌==◌, Bool, true, false, cond, Option, Some, None, MatchOption, List, [], ◌∷◌, ◌++◌, length, sum, refl, sym, ap, ap₂, ◌∙◌, arith, append_assoc, append-nil, length-append}
use Rattle.std.proofs.lemmas.Bool.{eqb-true}
use Rattle.std.proofs.lemmas.Bool.Decides.{nat_tests}
use Rattle.std.proofs.lemmas.List.{nil_from_length}
use lib.Utf8.{encode}
use Rattle.csv.specs.Reading.{is_bom, strip_bom}
use Rattle.csv.specs.declared.parser.State.TheVariants as st
use Rattle.imp_csv.specs.Tables.{Row, records_of}
use Rattle.imp_csv.specs.Records.{cut, records_at, begins_with, begins_line, IsLineEnded, AddsRecord, SkipsLines}
use Rattle.imp_csv.proofs.Cuts.{cut_more, sum_more}
use Rattle.imp_csv.proofs.Texts.{all_records, record_start, skipped_return, skipped_feed}

-- ---- the byte order mark

pub mark_gone : (text rest : List ℕ) → text ≡ encode 65279 ++ rest → rest ≡ strip_bom text
unfolding encode strip_bom
mark_gone text rest begins = rw begins refl

unmarked : (a b c : ℕ) (rest : List ℕ) (t : Bool) → is_bom a b c ≡ t → ((after : List ℕ) → a ∷ b ∷ c ∷ rest ≢ encode 65279 ++ after) → a ∷ b ∷ c ∷ rest ≡ cond t rest (a ∷ b ∷ c ∷ rest)
unfolding encode
unmarked a b c rest true is none =
    let first : a ≡ 0xEF = grind (arith, nat_tests) in
    let second : b ≡ 0xBB = grind (arith, nat_tests) in
    let third : c ≡ 0xBF = grind (arith, nat_tests) in
    absurd (none rest (rw (first, second, third) refl))
unmarked a b c rest false is none = refl

pub no_mark : (text : List ℕ) → ((after : List ℕ) → text ≢ encode 65279 ++ after) → text ≡ strip_bom text
unfolding strip_bom
no_mark [] none = refl
no_mark (a ∷ []) none = refl
no_mark (a ∷ b ∷ []) none = refl
no_mark (a ∷ b ∷ c ∷ rest) none = unmarked a b c rest (is_bom a b c) refl none

-- ---- one record after another

abbrev read_from : List ℕ → List Row
read_from text = records_at st.StartRecord [] [] text

pub past_return : (text rest : List ℕ) → text ≡ 13 ∷ rest → (read_from text ≡ read_from rest) × (length rest < length text)
past_return text rest is = (ap read_from is ∙ skipped_return rest, omega (arith, ap length is))

no_line : (text : List ℕ) → begins_with 13 text ≡ false → begins_with 10 text ≡ false → begins_line text ≡ false
no_line [] none other = refl
no_line (byte ∷ rest) none other = rw (none, other) refl

pub past_feed : {X : Type 0} (now : X → List ℕ) (text : List ℕ) (after : Option X) → begins_with 13 text ≡ false → MatchOption after (begins_with 10 text ≡ false) (λ rest. text ≡ 10 ∷ now rest)
    → MatchOption after (begins_line text ≡ false) (λ rest. (read_from text ≡ read_from (now rest)) × (length (now rest) < length text))
past_feed now text (Some rest) none is = (ap read_from is ∙ skipped_feed (now rest), omega (arith, ap length is))
past_feed now text None none other = no_line text none other

pub begun : (ns : List ℕ) (fields : Row) (text stripped rest : List ℕ) → ns ≡ [] → fields ≡ [] → stripped ≡ strip_bom text → SkipsLines stripped rest
    → (sum ns ≡ length fields) × (cut ns fields ++ read_from rest ≡ records_of text)
unfolding cut records_of
begun ns fields text stripped rest unread none mark skips = rw (unread, none) (refl, sym skips.0 ∙ ap read_from mark ∙ all_records (strip_bom text))

some_start : (rest : List ℕ) → (length rest == 0) ≡ false → begins_line rest ≡ false → read_from rest ≡ records_at st.StartField [] [] rest
some_start [] some start = absurd (cc)
some_start (byte ∷ rest) some start = record_start byte rest start

pub added : (ns more : List ℕ) (old new : List (List ℕ)) (n : ℕ) (rest after next : List ℕ) (all : List Row)
    → sum ns ≡ length old → cut ns old ++ read_from rest ≡ all → begins_line rest ≡ false → (length rest == 0) ≡ false → AddsRecord old rest new after → SkipsLines after next
    → n ≡ length new - length old → more ≡ ns ++ n ∷ [] → (sum more ≡ length new) × (cut more new ++ read_from next ≡ all)
added ns more old new n rest after next all sums given start some adds skips count is =
    let row = adds.0 in
    let grown : length new ≡ length old + length row = ap length adds.1 ∙ length-append old row in
    let width : n ≡ length row = omega (arith, grown, count) in
    let lengths : more ≡ ns ++ length row ∷ [] = is ∙ ap (λ k. ns ++ k ∷ []) width in
    let read : read_from rest ≡ row ∷ read_from next = some_start rest some start ∙ adds.2 ∙ ap (λ rows. row ∷ rows) skips.0 in (
      omega (arith, ap sum lengths, sum_more ns (length row), sums, grown),
      ap₂ (λ ks fields. cut ks fields ++ read_from next) lengths adds.1 ∙ ap (λ rows. rows ++ read_from next) (cut_more ns old row sums) ∙ append_assoc (cut ns old) (row ∷ []) (read_from next)
          ∙ ap (λ rows. cut ns old ++ rows) (sym read) ∙ given,
    )

pub shrinks : (rest after next : List ℕ) → (length rest == 0) ≡ false → IsLineEnded after → length after ≤ length rest → SkipsLines after next → length next < length rest
shrinks rest [] next some ended le skips = grind (arith, nat_tests, skips.2)
shrinks rest (byte ∷ after) next some ended le skips = omega (arith, le, skips.3 ended)

pub all_read : (ns : List ℕ) (fields : Row) (rest : List ℕ) (all : List Row) → cut ns fields ++ read_from rest ≡ all → (length rest == 0) ≡ true → cut ns fields ≡ all
unfolding records_at
all_read ns fields rest all given none =
    let empty : rest ≡ [] = nil_from_length rest (eqb-true (length rest) 0 none) in
    sym (ap (λ text. cut ns fields ++ read_from text) empty ∙ append-nil (cut ns fields)) ∙ given
