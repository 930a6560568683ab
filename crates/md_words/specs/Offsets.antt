-- The offset of local time, in minutes ahead of UTC.
use Rattle.std.specs.Prelude.{ℕ, ◌==◌, ◌+◌, ◌-◌, ◌*◌, nat_lt, ◌&&◌, if◌then◌else◌, List, [], ◌∷◌, Option, Some, None, ℤ, pos, neg_ℤ}
use Rattle.std.specs.Char.{is_ascii_digit}
use Rattle.std.specs.Option.{option_map, option_and_then}

-- the number below the limit that two digits write
abbrev pub two_digits : ℕ → ℕ → ℕ → Option ℕ
two_digits limit t u =
    if is_ascii_digit t && (is_ascii_digit u && nat_lt (10 * (t - 48) + (u - 48)) limit) then Some (10 * (t - 48) + (u - 48)) else None

-- the minutes of HHMM, where HH is 00 to 23 and MM is 00 to 59
unfoldable pub minutes_of : ℕ → ℕ → ℕ → ℕ → Option ℕ
minutes_of h hh m mm =
    option_and_then (λ hours. option_map (λ minutes. 60 * hours + minutes) (two_digits 60 m mm)) (two_digits 24 h hh)

-- after `+` or `-`
abbrev pub signed : ℕ → ℕ → Option ℤ
signed sign minutes = if sign == 43 then Some (pos minutes) else (if sign == 45 then Some (neg_ℤ (pos minutes)) else None)

-- `Z`, or a sign before HHMM or HH:MM
unfoldable pub offset_of : List ℕ → Option ℤ
offset_of (z ∷ []) = if z == 90 then Some (pos 0) else None
offset_of (sign ∷ h ∷ hh ∷ m ∷ mm ∷ []) = option_and_then (signed sign) (minutes_of h hh m mm)
offset_of (sign ∷ h ∷ hh ∷ colon ∷ m ∷ mm ∷ []) = if colon == 58 then option_and_then (signed sign) (minutes_of h hh m mm) else None
offset_of _ = None
