-- How a text is read into records, from one state to the next.
use Rattle.std.proofs.Common.{◌≡◌, ℕ, zero, suc, ◌+◌, ◌<◌, ◌≤◌, ◌==◌, ◌||◌, not, Bool, true, false, cond, List, [], ◌∷◌, ◌++◌, length, Option, Some, None, refl, sym, ap, ◌∙◌, arith, append_assoc, append-nil, take, drop, add-one}
use Rattle.std.specs.List.{position, position_or_len}
use Rattle.std.specs.Str.{IsCharBoundary}
use Rattle.std.specs.Prelude.{unwrap_or, IsUtf8, nat_lt, get_or}
use Rattle.std.proofs.lemmas.List.{take_all, drop_all}
use Rattle.std.proofs.lemmas.Bool.Decides.{nat_tests}
use Rattle.std.proofs.lemmas.Str.{IsCharBoundary-before_ascii, IsCharBoundary-after_ascii}
use Rattle.csv.specs.Machine.{step, start_field, next_record, Read}
use Rattle.csv.specs.Reading.{default_config, records, records_from, records_next}
use Rattle.csv.specs.declared.parser.State.{State}
use Rattle.csv.specs.declared.parser.State.TheVariants as st
use Rattle.csv.specs.declared.parser.Action.TheVariants as act
use Rattle.imp_csv.specs.Tables.{Row}
use Rattle.imp_csv.specs.Records.{records_at, ends_field, begins_with, begins_line, IsEnded, IsLineEnded}

-- ---- the records of a text

abbrev next_of : State → Row → List ℕ → List ℕ → Option Read
next_of = next_record default_config

abbrev more_of : ℕ → Option Read → List Row
more_of n = records_next (records_from default_config n)

records_none : (n : ℕ) → records_from default_config n st.StartRecord [] ≡ []
unfolding records_from next_record
records_none zero = refl
records_none (suc n) = refl

at_end : (n : ℕ) (b : Bool) (row : Row) → more_of n (cond b (Some (row, st.StartRecord, [])) None) ≡ cond b (row ∷ []) []
at_end n true row = ap (λ rows. row ∷ rows) (records_none n)
at_end n false row = refl

at_byte : (n : ℕ) (b : Bool) (s : State) (row : Row) (field rest : List ℕ) → more_of n (next_of s [] [] rest) ≡ records_at s [] [] rest → more_of (suc n) (next_of s row field rest) ≡ records_at s row field rest
    → more_of (suc n) (cond b (Some (row, s, rest)) (next_of s row field rest)) ≡ cond b (row ∷ records_at s [] [] rest) (records_at s row field rest)
unfolding records_from
at_byte n true s row field rest ended more = ap (λ rows. row ∷ rows) ended
at_byte n false s row field rest ended more = more

given : (n : ℕ) (xs : List ℕ) (s : State) (row : Row) (field : List ℕ) → length xs ≤ n → more_of n (next_of s row field xs) ≡ records_at s row field xs
unfolding next_record records_at
given n [] s row field le = at_end n _ _
given zero (byte ∷ rest) s row field le = absurd (omega arith)
given (suc n) (byte ∷ rest) s row field le = at_byte n _ _ _ _ rest (given n rest _ [] [] (omega arith)) (given (suc n) rest _ _ _ (omega arith))

pub all_records : (xs : List ℕ) → records_at st.StartRecord [] [] xs ≡ records default_config xs
unfolding records_from
all_records xs = sym (rw add-one (given (length xs) xs st.StartRecord [] [] (omega arith)))

-- ---- one byte

past_copy : (s t : State) (row : Row) (field : List ℕ) (byte : ℕ) (rest : List ℕ) → step default_config s byte ≡ (t, act.Copy) → records_at s row field (byte ∷ rest) ≡ records_at t row (field ++ byte ∷ []) rest
unfolding records_at
past_copy s t row field byte rest e = rw e refl

past_skip : (s t : State) (row : Row) (field : List ℕ) (byte : ℕ) (rest : List ℕ) → step default_config s byte ≡ (t, act.Skip) → records_at s row field (byte ∷ rest) ≡ records_at t row field rest
unfolding records_at
past_skip s t row field byte rest e = rw e refl

past_end : (s t : State) (row : Row) (field : List ℕ) (byte : ℕ) (rest : List ℕ) → step default_config s byte ≡ (t, act.EndRecord) → records_at s row field (byte ∷ rest) ≡ (row ++ field ∷ []) ∷ records_at t [] [] rest
unfolding records_at
past_end s t row field byte rest e = rw e refl

past_same : (s t : State) (row : Row) (field : List ℕ) (byte : ℕ) (rest : List ℕ) → step default_config s byte ≡ step default_config t byte → records_at s row field (byte ∷ rest) ≡ records_at t row field (byte ∷ rest)
unfolding records_at
past_same s t row field byte rest e = rw e refl

-- ---- runs of bytes

last_of : {A : Type 0} (a b : Bool) (x y z : A) → (a || b) ≡ false → cond a x (cond b y z) ≡ z
last_of true b x y z e = absurd (cc)
last_of false true x y z e = absurd (cc)
last_of false false x y z e = refl

pub run_plain : (xs : List ℕ) (row : Row) (field : List ℕ)
    → records_at st.InField row field xs ≡ records_at st.InField row (field ++ take (position_or_len ends_field xs) xs) (drop (position_or_len ends_field xs) xs)
run_plain [] row field = ap (λ f. records_at st.InField row f []) (sym (append-nil field))
run_plain (byte ∷ rest) row field = by (ends_field byte) refl (run_plain rest row (field ++ byte ∷ []))
  where
    by : (b : Bool) → ends_field byte ≡ b
        → records_at st.InField row (field ++ byte ∷ []) rest ≡ records_at st.InField row (field ++ byte ∷ [] ++ take (position_or_len ends_field rest) rest) (drop (position_or_len ends_field rest) rest)
        → records_at st.InField row field (byte ∷ rest) ≡ records_at st.InField row (field ++ take (cond (not b) (1 + position_or_len ends_field rest) 0) (byte ∷ rest)) (drop (cond (not b) (1 + position_or_len ends_field rest) 0) (byte ∷ rest))
    by true e more = ap (λ f. records_at st.InField row f (byte ∷ rest)) (sym (append-nil field))
    by false e more =
        let n = position_or_len ends_field rest in
        let next : 1 + n ≡ suc n = omega arith in
        past_copy st.InField st.InField row field byte rest (last_of (byte == 44) ((byte == 13) || (byte == 10)) _ _ _ e)
        ∙ more ∙ rw next (ap (λ f. records_at st.InField row f (drop n rest)) (append_assoc field (byte ∷ []) (take n rest)))

quote_step : (byte : ℕ) → (byte == 34) ≡ true → step default_config st.InQuoted byte ≡ (st.AfterQuote, act.Skip)
quote_step byte e = rw e refl

quoted_step : (byte : ℕ) → (byte == 34) ≡ false → step default_config st.InQuoted byte ≡ (st.InQuoted, act.Copy)
quoted_step byte e = rw e refl

abbrev pub quote_at : List ℕ → ℕ
quote_at xs = position_or_len (λ byte. byte == 34) xs

pub run_quoted : (xs : List ℕ) (row : Row) (field : List ℕ) → records_at st.InQuoted row field xs ≡ records_at st.AfterQuote row (field ++ take (quote_at xs) xs) (drop (quote_at xs + 1) xs)
unfolding records_at
run_quoted [] row field = ap (λ f. (row ++ f ∷ []) ∷ []) (sym (append-nil field))
run_quoted (byte ∷ rest) row field = by (byte == 34) refl (run_quoted rest row (field ++ byte ∷ []))
  where
    by : (b : Bool) → (byte == 34) ≡ b
        → records_at st.InQuoted row (field ++ byte ∷ []) rest ≡ records_at st.AfterQuote row (field ++ byte ∷ [] ++ take (quote_at rest) rest) (drop (quote_at rest + 1) rest)
        → records_at st.InQuoted row field (byte ∷ rest) ≡ records_at st.AfterQuote row (field ++ take (cond (not b) (1 + quote_at rest) 0) (byte ∷ rest)) (drop (cond (not b) (1 + quote_at rest) 0 + 1) (byte ∷ rest))
    by true e more = past_skip st.InQuoted st.AfterQuote row field byte rest (quote_step byte e) ∙ ap (λ f. records_at st.AfterQuote row f rest) (sym (append-nil field))
    by false e more =
        let n = quote_at rest in
        let next : 1 + n ≡ suc n = omega arith in
        let after : suc n + 1 ≡ suc (n + 1) = omega arith in
        past_copy st.InQuoted st.InQuoted row field byte rest (quoted_step byte e)
        ∙ more ∙ rw (next, after) (ap (λ f. records_at st.AfterQuote row f (drop (n + 1) rest)) (append_assoc field (byte ∷ []) (take n rest)))

-- ---- the first byte that passes a test

found_at : (m k n : ℕ) (b : Bool) → nat_lt m k ≡ b → cond b (Some m) None ≡ Some n → (n ≡ m) × (m < k)
found_at m k n true lt e = (sym (ap (λ o. unwrap_or o n) e), grind (arith, nat_tests))
found_at m k n false lt e = absurd (cc)

none_at : (m k : ℕ) (b : Bool) → nat_lt m k ≡ b → cond b (Some m) None ≡ None → k ≤ m
none_at m k true lt e = absurd (cc)
none_at m k false lt e = grind (arith, nat_tests)

-- the byte at the place passes
passes_at : (p : ℕ → Bool) (xs : List ℕ) → position_or_len p xs < length xs → p (get_or xs (position_or_len p xs) 0) ≡ true
passes_at p [] lt = absurd (omega arith)
passes_at p (byte ∷ rest) lt = by (p byte) refl lt (passes_at p rest)
  where
    by : (b : Bool) → p byte ≡ b → cond (not b) (1 + position_or_len p rest) 0 < length (byte ∷ rest)
        → (position_or_len p rest < length rest → p (get_or rest (position_or_len p rest) 0) ≡ true) → p (get_or (byte ∷ rest) (cond (not b) (1 + position_or_len p rest) 0) 0) ≡ true
    by true e lt more = e
    by false e lt more = let next : 1 + position_or_len p rest ≡ suc (position_or_len p rest) = omega arith in rw next (more (omega arith))

low_end : (byte : ℕ) → ends_field byte ≡ true → byte < 128
low_end byte e = grind (arith, nat_tests)

low_quote : (byte : ℕ) → (byte == 34) ≡ true → byte < 128
low_quote byte e = grind (arith, nat_tests)

ended_at : (xs : List ℕ) (n : ℕ) → n < length xs → ends_field (get_or xs n 0) ≡ true → IsEnded (drop n xs)
ended_at [] n lt e = absurd (omega arith)
ended_at (byte ∷ rest) zero lt e = e
ended_at (byte ∷ rest) (suc n) lt e = ended_at rest n (omega arith) e

-- a field in no quotes may be cut at its end
pub plain_found : (xs : List ℕ) (n : ℕ) → position ends_field xs ≡ Some n
    → IsCharBoundary xs n × IsEnded (drop n xs) × ((row : Row) (field : List ℕ) → records_at st.InField row field xs ≡ records_at st.InField row (field ++ take n xs) (drop n xs))
plain_found xs n is =
    let place = found_at (position_or_len ends_field xs) (length xs) n _ refl is in
    let within : n < length xs = omega (arith, place.0, place.1) in
    let passes : ends_field (get_or xs n 0) ≡ true = rw place.0 (passes_at ends_field xs place.1) in (
      IsCharBoundary-before_ascii xs n within (low_end _ passes),
      ended_at xs n within passes,
      λ row field. rw place.0 (run_plain xs row field),
    )

pub plain_none : (xs : List ℕ) (row : Row) (field : List ℕ) → position ends_field xs ≡ None → records_at st.InField row field xs ≡ records_at st.InField row (field ++ xs) []
plain_none xs row field is =
    let past = none_at (position_or_len ends_field xs) (length xs) _ refl is in
    let all : take (position_or_len ends_field xs) xs ≡ xs = take_all _ xs past in
    let none : drop (position_or_len ends_field xs) xs ≡ [] = drop_all _ xs past in
    run_plain xs row field ∙ rw (all, none) refl

-- what stands in quotes may be cut round the next quote
pub quote_found : (xs : List ℕ) (n : ℕ) → IsUtf8 xs → position (λ byte. byte == 34) xs ≡ Some n
    → IsCharBoundary xs n × IsCharBoundary xs (n + 1) × (n < length xs)
    × ((row : Row) (field : List ℕ) → records_at st.InQuoted row field xs ≡ records_at st.AfterQuote row (field ++ take n xs) (drop (n + 1) xs))
quote_found xs n utf8 is =
    let place = found_at (quote_at xs) (length xs) n _ refl is in
    let within : n < length xs = omega (arith, place.0, place.1) in
    let passes : (get_or xs n 0 == 34) ≡ true = rw place.0 (passes_at (λ byte. byte == 34) xs place.1) in (
      IsCharBoundary-before_ascii xs n within (low_quote _ passes),
      IsCharBoundary-after_ascii xs n utf8 within (low_quote _ passes),
      within,
      λ row field. rw place.0 (run_quoted xs row field),
    )

pub quote_none : (xs : List ℕ) (row : Row) (field : List ℕ) → position (λ byte. byte == 34) xs ≡ None → records_at st.InQuoted row field xs ≡ records_at st.AfterQuote row (field ++ xs) []
quote_none xs row field is =
    let past = none_at (quote_at xs) (length xs) _ refl is in
    let all : take (quote_at xs) xs ≡ xs = take_all _ xs past in
    let none : drop (quote_at xs + 1) xs ≡ [] = drop_all _ xs (omega arith) in
    run_quoted xs row field ∙ rw (all, none) refl

-- ---- the beginning of a field and its end

pub plain_start : (xs : List ℕ) (row : Row) → begins_with 34 xs ≡ false → records_at st.StartField row [] xs ≡ records_at st.InField row [] xs
unfolding records_at
plain_start [] row none = refl
plain_start (byte ∷ rest) row none = past_same st.StartField st.InField row [] byte rest (rw none refl)

pub quoted_start : (rest : List ℕ) (row : Row) → records_at st.StartField row [] (34 ∷ rest) ≡ records_at st.InQuoted row [] rest
quoted_start rest row = past_skip st.StartField st.InQuoted row [] 34 rest refl

pub after_quotes : (xs : List ℕ) (row : Row) (field : List ℕ) → begins_with 34 xs ≡ false → records_at st.AfterQuote row field xs ≡ records_at st.InField row field xs
unfolding records_at
after_quotes [] row field none = refl
after_quotes (byte ∷ rest) row field none = past_same st.AfterQuote st.InField row field byte rest (rw none refl)

pub doubled_quote : (rest : List ℕ) (row : Row) (field : List ℕ) → records_at st.AfterQuote row field (34 ∷ rest) ≡ records_at st.InQuoted row (field ++ 34 ∷ []) rest
doubled_quote rest row field = past_copy st.AfterQuote st.InQuoted row field 34 rest refl

pub next_field : (rest : List ℕ) (row : Row) (field : List ℕ) → records_at st.InField row field (44 ∷ rest) ≡ records_at st.StartField (row ++ field ∷ []) [] rest
unfolding records_at
next_field rest row field = refl

-- ---- the ends of lines

first_of : {A : Type 0} (a b : Bool) (x y : A) → cond b x (cond (a || b) x y) ≡ cond (a || b) x y
first_of true true x y = refl
first_of true false x y = refl
first_of false true x y = refl
first_of false false x y = refl

-- a `\n` after a `\r` is one more end of a line with no record before it
after_return : (xs : List ℕ) → records_at st.AfterCr [] [] xs ≡ records_at st.StartRecord [] [] xs
unfolding records_at
after_return [] = refl
after_return (byte ∷ rest) = past_same st.AfterCr st.StartRecord [] [] byte rest (first_of (byte == 13) (byte == 10) (st.StartRecord, act.Skip) (start_field default_config byte))

pub skipped_return : (rest : List ℕ) → records_at st.StartRecord [] [] (13 ∷ rest) ≡ records_at st.StartRecord [] [] rest
skipped_return rest = past_skip st.StartRecord st.StartRecord [] [] 13 rest refl

pub skipped_feed : (rest : List ℕ) → records_at st.StartRecord [] [] (10 ∷ rest) ≡ records_at st.StartRecord [] [] rest
skipped_feed rest = past_skip st.StartRecord st.StartRecord [] [] 10 rest refl

pub record_start : (byte : ℕ) (rest : List ℕ) → begins_line (byte ∷ rest) ≡ false → records_at st.StartRecord [] [] (byte ∷ rest) ≡ records_at st.StartField [] [] (byte ∷ rest)
record_start byte rest none = past_same st.StartRecord st.StartField [] [] byte rest (rw none refl)

no_comma : (byte : ℕ) → ((byte == 13) || (byte == 10)) ≡ true → (byte == 44) ≡ false
no_comma byte e = grind (arith, nat_tests)

line_step : (byte : ℕ) → ((byte == 13) || (byte == 10)) ≡ true → step default_config st.InField byte ≡ (cond (byte == 13) st.AfterCr st.StartRecord, act.EndRecord)
line_step byte e = rw (no_comma byte e, e) refl

skip_step : (byte : ℕ) → ((byte == 13) || (byte == 10)) ≡ true → step default_config st.StartRecord byte ≡ (st.StartRecord, act.Skip)
skip_step byte e = rw e refl

either_start : (b : Bool) (rest : List ℕ) → records_at (cond b st.AfterCr st.StartRecord) [] [] rest ≡ records_at st.StartRecord [] [] rest
either_start true rest = after_return rest
either_start false rest = refl

pub record_end : (xs : List ℕ) (row : Row) (field : List ℕ) → IsLineEnded xs → records_at st.InField row field xs ≡ (row ++ field ∷ []) ∷ records_at st.StartRecord [] [] xs
unfolding records_at
record_end [] row field ended = refl
record_end (byte ∷ rest) row field ended =
    past_end st.InField (cond (byte == 13) st.AfterCr st.StartRecord) row field byte rest (line_step byte ended)
    ∙ ap (λ rows. (row ++ field ∷ []) ∷ rows) (either_start (byte == 13) rest ∙ sym (past_skip st.StartRecord st.StartRecord [] [] byte rest (skip_step byte ended)))

other_end : (a b : Bool) → (a || b) ≡ true → a ≡ false → b ≡ true
other_end true b e f = absurd (cc)
other_end false b e f = e

pub line_ended : (xs : List ℕ) → IsEnded xs → begins_with 44 xs ≡ false → IsLineEnded xs
line_ended [] ended none = tt
line_ended (byte ∷ rest) ended none = other_end (byte == 44) ((byte == 13) || (byte == 10)) ended none
