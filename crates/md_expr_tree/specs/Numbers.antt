-- Numbers in decimal digits.
use Rattle.std.specs.Prelude.{◌≡◌, ◌≤◌, ◌<◌, ℕ, zero, suc, ◌+◌, ◌*◌, ◌-◌, ◌^◌, Bool, true, false, List, [], ◌∷◌, ◌++◌, ℤ, pos, negsuc, length, codes}
use Rattle.std.specs.Char.{is_ascii_digit}
use Rattle.std.specs.List.{list_all}

-- one or more digits
pub record AreDigits (ds : List ℕ) : Type 0 where
  pub some : 0 < length ds
  pub digits : list_all is_ascii_digit ds ≡ true

-- the value of digits behind others, whose value is given
abbrev pub value_after : ℕ → List ℕ → ℕ
value_after before [] = before
value_after before (d ∷ ds) = value_after (before * 10 + (d - 48)) ds

abbrev pub value_of : List ℕ → ℕ
value_of ds = value_after 0 ds

-- zero has no sign
abbrev pub signed : Bool → ℕ → ℤ
signed false n = pos n
signed true zero = pos 0
signed true (suc n) = negsuc n

-- the greatest size of a 64-bit number of this sign
abbrev pub most : Bool → ℕ
most false = 2 ^ 63 - 1
most true = 2 ^ 63

-- the decimals, and their value in parts of 10^9
pub data IsFraction : List ℕ → ℕ → Type 0 where
  none : IsFraction [] 0
  point : {ds : List ℕ} → AreDigits ds → length ds ≤ 9 → IsFraction (46 ∷ ds) (value_of ds * 10 ^ (9 - length ds))

-- what stands before a number, and whether the number is negative
pub data IsMinus : List ℕ → Bool → Type 0 where
  none : IsMinus [] false
  minus : IsMinus (codes "-") true

-- the spelling of a number of 64 bits with sign and up to nine decimals, and its value in parts of 10^9
pub data IsNumber : List ℕ → ℤ → Type 0 where
  number : {sign whole fraction : List ℕ} {negative : Bool} {parts : ℕ} → IsMinus sign negative → AreDigits whole → IsFraction fraction parts → value_of whole * 10 ^ 9 + parts ≤ most negative * 10 ^ 9 → IsNumber (sign ++ (whole ++ fraction)) (signed negative (value_of whole * 10 ^ 9 + parts))
