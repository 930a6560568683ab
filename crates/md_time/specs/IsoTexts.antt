-- ISO texts: the profile of ISO 8601 that this crate reads.
use Rattle.std.specs.Prelude.{ℕ, ◌+◌, ◌-◌, ◌*◌, Bool, true, false, ◌&&◌, ◌||◌, ◌==◌, if◌then◌else◌, List, [], ◌∷◌, take, drop, codes, pos}
use Rattle.std.specs.Char.{is_ascii_digit}
use Rattle.std.specs.Int.{is_in_range}
use Rattle.std.specs.List.{slice_range}
use Rattle.jiff_core.specs.Calendar.{days_in_month}

-- in a picture, `0` stands for any digit, `+` for either sign, and any other character for itself
abbrev pub stands_for : ℕ → ℕ → Bool
stands_for p c = if p == 48 then is_ascii_digit c else (if p == 43 then (c == 43) || (c == 45) else p == c)

abbrev pub looks_like : List ℕ → List ℕ → Bool
looks_like [] [] = true
looks_like (p ∷ ps) (c ∷ cs) = stands_for p c && looks_like ps cs
looks_like _ _ = false

-- the number that decimal digits write, after what was read before them
abbrev pub number_after : ℕ → List ℕ → ℕ
number_after n [] = n
number_after n (c ∷ cs) = number_after (10 * n + (c - 48)) cs

-- the number that the digits from place i to place j write
abbrev pub field : ℕ → ℕ → List ℕ → ℕ
field i j text = number_after 0 (slice_range text i j)

-- a date of the Gregorian calendar in the years 0001 to 9999
abbrev pub is_calendar_date : ℕ → ℕ → ℕ → Bool
is_calendar_date y m d = is_in_range 1 9999 y && is_in_range 1 12 m && is_in_range 1 (days_in_month (pos y) m) d

-- YYYY-MM-DD
abbrev pub is_date_text : List ℕ → Bool
is_date_text text = looks_like (codes "0000-00-00") text && is_calendar_date (field 0 4 text) (field 5 7 text) (field 8 10 text)

-- THH:MM:SS
abbrev pub is_time_text : List ℕ → Bool
is_time_text text = looks_like (codes "T00:00:00") text && is_in_range 0 23 (field 1 3 text) && is_in_range 0 59 (field 4 6 text) && is_in_range 0 59 (field 7 9 text)

-- +HHMM or -HHMM
abbrev pub is_plain_distance : List ℕ → Bool
is_plain_distance text = looks_like (codes "+0000") text && is_in_range 0 23 (field 1 3 text) && is_in_range 0 59 (field 3 5 text)

-- +HH:MM or -HH:MM
abbrev pub is_colon_distance : List ℕ → Bool
is_colon_distance text = looks_like (codes "+00:00") text && is_in_range 0 23 (field 1 3 text) && is_in_range 0 59 (field 4 6 text)

abbrev pub is_zone_text : List ℕ → Bool
is_zone_text text = looks_like (codes "Z") text || is_plain_distance text || is_colon_distance text

-- a date, a time and a zone
abbrev pub is_full_text : List ℕ → Bool
is_full_text text = is_date_text (take 10 text) && is_time_text (slice_range text 10 19) && is_zone_text (drop 19 text)

-- a date alone, or a date, a time and a zone
abbrev pub is_iso : List ℕ → Bool
is_iso text = is_date_text text || is_full_text text
