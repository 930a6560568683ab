-- Digits are UTF-8.
use Rattle.std.proofs.Common.{◌≡◌, ℕ, Bool, true, false, ◌&&◌, List, [], ◌∷◌, length, refl, ap, ◌∙◌, Some, None, if◌then◌else◌, not, ◌==◌}
use Rattle.std.specs.List.{list_all}
use Rattle.std.specs.Char.{is_ascii_digit}
use Rattle.std.specs.Str.{all_ascii_digits, is_utf8}
use Rattle.std.specs.Str.Parse.{digits_value}
use Rattle.std.proofs.lemmas.Bool.{and_parts}
use Rattle.std.proofs.lemmas.Fmt.{IsAscii-from_digits}
use Rattle.std.proofs.lemmas.Str.{IsUtf8-from_ascii, is_utf8-from_IsUtf8}
use Rattle.std.proofs.lemmas.Str.Parse.{IsNumeralModel, tells_all_ascii_digits, numerals_by_value}
use Rattle.md_value.specs.Numerals.{is_numeral}
use Rattle.md_words.specs.Numbers.{number_in}
use Rattle.md_words.proofs.Numerals.{same_test}

own : IsNumeralModel (λ ds. all_ascii_digits ds ≡ true) (digits_value 10)
own = numerals_by_value (λ ds. all_ascii_digits ds ≡ true) tells_all_ascii_digits

digits_utf8 : (bs : List ℕ) → is_numeral bs ≡ true → is_utf8 bs ≡ true
digits_utf8 bs h =
    let digits : all_ascii_digits bs ≡ true = same_test bs ∙ (and_parts (not (length bs == 0)) (list_all is_ascii_digit bs) h).1 in
    is_utf8-from_IsUtf8 bs (IsUtf8-from_ascii bs (IsAscii-from_digits bs (own.to bs digits)))

-- what is no text writes no number
pub no_text : (least most : ℕ) (bs : List ℕ) → None ≡ (if is_utf8 bs then Some bs else None) → None ≡ number_in least most bs
unfolding number_in
no_text least most bs is =
    elim (is_numeral bs) as (λ b. is_numeral bs ≡ b → None ≡ number_in least most bs) [
      | true ↦ λ numeral. let utf8 = digits_utf8 bs numeral in let same : (if is_utf8 bs then Some bs else None) ≡ Some bs = rw utf8 refl in cc
      | false ↦ λ numeral. rw numeral refl
    ] refl

same_text : (b : Bool) (bs ds : List ℕ) → Some ds ≡ (if b then Some bs else None) → ds ≡ bs
same_text true bs ds is = cc
same_text false bs ds is = cc

-- a text writes the number that its bytes do
pub same_number : (least most : ℕ) (bs ds : List ℕ) → Some ds ≡ (if is_utf8 bs then Some bs else None) → number_in least most ds ≡ number_in least most bs
same_number least most bs ds is = ap (number_in least most) (same_text (is_utf8 bs) bs ds is)
