-- The whole numbers that texts write.
use Rattle.std.specs.Prelude.{ℕ, ◌^◌, ◌==◌, nat_lt, List, [], ◌∷◌, if◌then◌else◌, Option, Some, None, ℤ, pos, neg_ℤ}
use Rattle.std.specs.Option.{option_and_then}
use Rattle.md_value.specs.Numerals.{is_numeral}
use Rattle.md_time.specs.IsoTexts.{number_after}

-- the number that digits write
abbrev pub digits_number : List ℕ → Option ℕ
digits_number text = if is_numeral text then Some (number_after 0 text) else None

-- the number, and the number below zero, where they have 64 bits with sign
abbrev pub above_zero : ℕ → Option ℤ
above_zero n = if nat_lt n (2 ^ 63) then Some (pos n) else None

abbrev pub below_zero : ℕ → Option ℤ
below_zero n = if nat_lt (2 ^ 63) n then None else Some (neg_ℤ (pos n))

-- the number that an optional `-` and digits write, where it has 64 bits with sign
abbrev pub whole_number : List ℕ → Option ℤ
whole_number [] = None
whole_number (c ∷ cs) = if c == 45 then option_and_then below_zero (digits_number cs) else option_and_then above_zero (digits_number (c ∷ cs))
