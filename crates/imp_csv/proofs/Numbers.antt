-- A text is read as the whole number that it writes.
use Rattle.std.proofs.Common.{◌≡◌, ◌≢◌, ℕ, ◌<◌, ◌≤◌, ◌^◌, ◌==◌, ◌&&◌, Bool, true, false, not, nat_lt, List, [], ◌∷◌, length, get_or, Some, None, Result, Ok, Err, ℤ, pos, neg_ℤ, cond, arith, rules, refl, sym, ◌∙◌, w64}
use Rattle.std.specs.Option.{option_and_then}
use Rattle.std.specs.Result.{OkIff, result_ok}
use Rattle.std.specs.Str.{all_ascii_digits}
use Rattle.std.specs.Str.Parse.{ParsesSigned}
use Rattle.std.proofs.lemmas.Bool.{and_parts, false≢true}
use Rattle.std.proofs.lemmas.Bool.Decides.{nat_tests}
use Rattle.std.proofs.lemmas.Str.Parse.{IsNumeralModel, numerals_by_fold, parse_signed_minus, parse_signed_plain}
use Rattle.md_time.specs.IsoTexts.{number_after}
use Rattle.md_value.specs.Numerals.{is_numeral}
use Rattle.imp_csv.specs.Numbers.{digits_number, above_zero, below_zero, whole_number}

own : IsNumeralModel (λ ds. all_ascii_digits ds ≡ true) (number_after 0)
own = numerals_by_fold _ (search rules) number_after (search rules)

by_test : {E P : Type 0} (r : Result ℤ E) (x : ℤ) (t : Bool) → OkIff r P x → (t ≡ true → P) → (P → t ≡ true) → result_ok r ≡ cond t (Some x) None
by_test (Ok y) x true h to from = rw h.1 refl
by_test (Ok y) x false h to from = absurd (false≢true (from h.0))
by_test (Err e) x true h to from = absurd (h (to refl))
by_test (Err e) x false h to from = refl

abbrev Digits : List ℕ → Type 0
Digits ds = all_ascii_digits ds ≡ true

some : (n : ℕ) → not (n == 0) ≡ true → 0 < n
some n h = grind (arith, nat_tests)

not_none : (n : ℕ) → 0 < n → not (n == 0) ≡ true
not_none n h = grind (arith, nat_tests)

below : (n m : ℕ) → nat_lt n m ≡ true → n < m
below n m h = grind (arith, nat_tests)

is_below : (n m : ℕ) → n < m → nat_lt n m ≡ true
is_below n m h = grind (arith, nat_tests)

most : (n m : ℕ) → not (nat_lt m n) ≡ true → n ≤ m
most n m h = grind (arith, nat_tests)

is_most : (n m : ℕ) → n ≤ m → not (nat_lt m n) ≡ true
is_most n m h = grind (arith, nat_tests)

above_is : (ds : List ℕ) (t : Bool) → option_and_then above_zero (cond t (Some (number_after 0 ds)) None) ≡ cond (t && nat_lt (number_after 0 ds) (2 ^ 63)) (Some (pos (number_after 0 ds))) None
above_is ds true = refl
above_is ds false = refl

either : (b : Bool) (x : ℤ) → cond b None (Some x) ≡ cond (not b) (Some x) None
either true x = refl
either false x = refl

below_is : (ds : List ℕ) (t : Bool) → option_and_then below_zero (cond t (Some (number_after 0 ds)) None) ≡ cond (t && not (nat_lt (2 ^ 63) (number_after 0 ds))) (Some (neg_ℤ (pos (number_after 0 ds)))) None
below_is ds true = either (nat_lt (2 ^ 63) (number_after 0 ds)) (neg_ℤ (pos (number_after 0 ds)))
below_is ds false = refl

plain_number : {E : Type 0} (ds : List ℕ) (r : Result ℤ E) → OkIff r (Digits ds × (0 < length ds) × (number_after 0 ds < 2 ^ 63)) (pos (number_after 0 ds)) → result_ok r ≡ option_and_then above_zero (digits_number ds)
plain_number ds r h =
    by_test r (pos (number_after 0 ds)) (is_numeral ds && nat_lt (number_after 0 ds) (2 ^ 63)) h (λ t.
    let parts = and_parts (is_numeral ds) (nat_lt (number_after 0 ds) (2 ^ 63)) t in
    let digits = and_parts (not (length ds == 0)) (all_ascii_digits ds) parts.0 in
    (digits.1, some (length ds) digits.0, below (number_after 0 ds) (2 ^ 63) parts.1))
    (λ p. rw (not_none (length ds) p.1, p.0, is_below (number_after 0 ds) (2 ^ 63) p.2) refl)
    ∙ sym (above_is ds (is_numeral ds))

minus_number : {E : Type 0} (ds : List ℕ) (r : Result ℤ E) → OkIff r (Digits ds × (0 < length ds) × (number_after 0 ds ≤ 2 ^ 63)) (neg_ℤ (pos (number_after 0 ds))) → result_ok r ≡ option_and_then below_zero (digits_number ds)
minus_number ds r h =
    by_test r (neg_ℤ (pos (number_after 0 ds))) (is_numeral ds && not (nat_lt (2 ^ 63) (number_after 0 ds))) h (λ t.
    let parts = and_parts (is_numeral ds) (not (nat_lt (2 ^ 63) (number_after 0 ds))) t in
    let digits = and_parts (not (length ds == 0)) (all_ascii_digits ds) parts.0 in
    (digits.1, some (length ds) digits.0, most (number_after 0 ds) (2 ^ 63) parts.1))
    (λ p. rw (not_none (length ds) p.1, p.0, is_most (number_after 0 ds) (2 ^ 63) p.2) refl)
    ∙ sym (below_is ds (is_numeral ds))

is_minus : (c : ℕ) → (c == 45) ≡ true → c ≡ 45
is_minus c h = grind (arith, nat_tests)

is_not : (c n : ℕ) → (c == n) ≡ false → c ≢ n
is_not c n h = grind (arith, nat_tests)

signed : {E : Type 0} (c : ℕ) (cs : List ℕ) (r : Result ℤ E) (t : Bool) → (c == 45) ≡ t → ParsesSigned w64 10 (c ∷ cs) r → (c == 43) ≡ false
    → result_ok r ≡ cond t (option_and_then below_zero (digits_number cs)) (option_and_then above_zero (digits_number (c ∷ cs)))
signed c cs r true is h plus = minus_number cs r (parse_signed_minus own w64 (c ∷ cs) r h (is_minus c is))
signed c cs r false is h plus = plain_number (c ∷ cs) r (parse_signed_plain own w64 (c ∷ cs) r h (is_not c 43 plus) (is_not c 45 is))

-- what is parsed of a text that does not begin with `+`
pub number_parsed : {E : Type 0} (bs : List ℕ) (r : Result ℤ E) → ParsesSigned w64 10 bs r → (get_or bs 0 0 == 43) ≡ false → result_ok r ≡ whole_number bs
number_parsed [] r h plus = plain_number [] r (parse_signed_plain own w64 [] r h (is_not 0 43 refl) (is_not 0 45 refl))
number_parsed (c ∷ cs) r h plus = signed c cs r (c == 45) refl h plus
