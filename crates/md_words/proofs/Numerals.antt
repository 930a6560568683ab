-- Numbers in digits, as `parse` reads them.
use Rattle.std.proofs.Common.{◌≡◌, ℕ, ◌^◌, ◌<◌, true, ◌&&◌, List, [], ◌∷◌, refl, ap, None, Err, arith}
use Rattle.std.specs.List.{list_all}
use Rattle.std.specs.Char.{is_ascii_digit}
use Rattle.std.specs.Str.{all_ascii_digits}
use Rattle.std.specs.Str.Parse.{ParsesUnsigned}
use Rattle.std.proofs.lemmas.Bool.Decides.{nat_tests}
use Rattle.std.proofs.lemmas.Str.Parse.{tells_all_ascii_digits, numerals_by_value, parse_digits}
use Rattle.md_value.specs.Numerals.{is_numeral}
use Rattle.md_words.specs.Numbers.{number_in}

-- both tests of digits are the same
pub same_test : (ds : List ℕ) → all_ascii_digits ds ≡ list_all is_ascii_digit ds
same_test [] = refl
same_test (d ∷ ds) = ap (λ b. is_ascii_digit d && b) (same_test ds)

-- digits that are not parsed write a number that is too large
pub too_large : (least most : ℕ) (word : List ℕ) → most < 2 ^ 64 → is_numeral word ≡ true → ParsesUnsigned {E = Unit {0}} 64 10 word (Err tt) → None ≡ number_in least most word
unfolding number_in
too_large least most word small numeral parsed =
    let digits : all_ascii_digits word ≡ true = grind (arith, same_test word) in
    let not_small = parse_digits (numerals_by_value (λ ds. all_ascii_digits ds ≡ true) tells_all_ascii_digits) {E = Unit {0}} 64 word (Err tt) parsed digits in
    grind (arith, nat_tests, not_small)
