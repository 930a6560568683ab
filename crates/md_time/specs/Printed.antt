-- How a moment is printed: `YYYY-MM-DD HH:MM:SS +0000`.
use Rattle.std.specs.Prelude.{ℕ, ◌+◌, ◌/◌, ◌%◌, List, [], ◌∷◌, ◌++◌, codes, ℤ, pos, unsigned_abs}
use Rattle.std.specs.Int.{int_rem_euclid}
use Rattle.md_time.specs.Moments.{day_of, year_of, month_of, day_of_month}

-- the last decimal digit
abbrev pub digit : ℕ → ℕ
digit n = 48 + n % 10

abbrev pub two_digits : ℕ → List ℕ
two_digits n = digit (n / 10) ∷ digit n ∷ []

abbrev pub four_digits : ℕ → List ℕ
four_digits n = two_digits (n / 100) ++ two_digits n

-- two digits after a separator
abbrev pub separated : ℕ → ℕ → List ℕ
separated separator n = separator ∷ two_digits n

unfoldable pub date_text : ℕ → ℕ → ℕ → List ℕ
date_text y m d = four_digits y ++ separated 45 m ++ separated 45 d

unfoldable pub time_text : ℕ → List ℕ
time_text second = two_digits (second / 3600) ++ separated 58 (second / 60 % 60) ++ separated 58 (second % 60)

abbrev pub second_of_day : ℤ → ℕ
second_of_day moment = unsigned_abs (int_rem_euclid moment (pos 86_400))

unfoldable pub moment_text : ℤ → List ℕ
moment_text moment =
    date_text (year_of (day_of moment)) (month_of (day_of moment)) (day_of_month (day_of moment))
    ++ 32 ∷ [] ++ time_text (second_of_day moment) ++ codes " +0000"
