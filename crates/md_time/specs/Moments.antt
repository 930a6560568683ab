-- The moments of time forms, by day numbers.
use Rattle.std.specs.Prelude.{ℕ, zero, suc, ◌+◌, ◌-◌, ◌*◌, Bool, ◌&&◌, not, int_lt, if◌then◌else◌, List, length, take, drop, Option, Some, None, ◌==◌, codes, ℤ, pos, neg_ℤ, ◌+ℤ◌, ◌-ℤ◌, ◌*ℤ◌, ◌≤ℤ◌, unsigned_abs}
use Rattle.std.specs.Int.{int_div_euclid, int_rem_euclid}
use Rattle.std.specs.List.{slice_range, slice_index}
use Rattle.std.specs.Option.{option_and_then, option_map}
use Rattle.jiff_core.specs.Calendar.{days_from_civil, weekday_number}
use Rattle.md_time.specs.declared.form.Form.{Form}
use Rattle.md_time.specs.declared.form.Form.TheVariants.{Now, Day, Week, Month, Year, Iso}
use Rattle.md_value.specs.Values.{first_moment, last_moment}
use Rattle.md_time.specs.IsoTexts.{looks_like, number_after, field, is_date_text, is_iso}

-- from year 0001 to year 9999, in seconds since 1970 in UTC
abbrev pub is_moment : ℤ → Bool
is_moment z = not (int_lt z first_moment) && not (int_lt last_moment z)

abbrev pub in_range : ℤ → Option ℤ
in_range z = if is_moment z then Some z else None

-- the day number of a second: day 0 is 1970-01-01
abbrev pub day_of : ℤ → ℤ
day_of second = int_div_euclid second (pos 86_400)

-- from 0001-01-01 to 9999-12-31
abbrev pub IsDay : ℤ → Type 0
IsDay day = (neg_ℤ (pos 719_162) ≤ℤ day) × (day ≤ℤ pos 2_932_896)

-- the first second of a day
abbrev pub first_second : ℤ → ℤ
first_second day = day *ℤ pos 86_400

-- the Monday on or before the day
abbrev pub monday_of : ℤ → ℤ
monday_of day = day -ℤ pos (weekday_number day)

-- the greatest number below n that passes the test, and 0 where none does
unfoldable pub greatest_below : ℕ → (ℕ → Bool) → ℕ
greatest_below zero p = 0
greatest_below (suc n) p = if p n then n else greatest_below n p

-- the year of a day in the years 1 to 9999: the last one whose 1 January is not after the day
abbrev pub year_of : ℤ → ℕ
year_of day = greatest_below 10_000 (λ y. not (int_lt day (days_from_civil (pos y) 1 1)))

-- the month of the day, from 1: the last one of the year whose first day is not after the day
abbrev pub month_of : ℤ → ℕ
month_of day = greatest_below 13 (λ m. not (int_lt day (days_from_civil (pos (year_of day)) m 1)))

-- the day of the month, from 1
abbrev pub day_of_month : ℤ → ℕ
day_of_month day = unsigned_abs (day -ℤ days_from_civil (pos (year_of day)) (month_of day) 1) + 1

-- months are numbered in one row: month 0 is January of the year 0, and month 12 January of the year 1
abbrev pub month_number : ℤ → ℤ
month_number day = pos (year_of day) *ℤ pos 12 +ℤ pos (month_of day - 1)

abbrev pub year_of_number : ℤ → ℤ
year_of_number k = int_div_euclid k (pos 12)

abbrev pub month_of_number : ℤ → ℕ
month_of_number k = unsigned_abs (int_rem_euclid k (pos 12)) + 1

-- the first day of month k, where its year is from 1 to 9999: others begin before year 0001 or after year 9999
abbrev pub first_of_month : ℤ → Option ℤ
first_of_month k =
    if not (int_lt (year_of_number k) (pos 1)) && not (int_lt (pos 9999) (year_of_number k))
    then Some (days_from_civil (year_of_number k) (month_of_number k) 1)
    else None

abbrev pub month_start : ℤ → Option ℤ
month_start k = option_map first_second (first_of_month k)

-- the local second of a moment, at an offset in minutes
abbrev pub local : ℤ → ℤ → ℤ
local moment offset = moment +ℤ pos 60 *ℤ offset

-- the moment of a local second that is in range
abbrev pub to_moment : ℤ → ℤ → Option ℤ
to_moment offset second = option_and_then (λ r. in_range (r -ℤ pos 60 *ℤ offset)) (in_range second)

-- the moment of the second that `start` tells from the local second of now
abbrev pub from_now : ℤ → ℤ → (ℤ → Option ℤ) → Option ℤ
from_now now offset start =
    option_and_then (λ l. option_and_then (to_moment offset) (start l)) (in_range (local now offset))

-- the minutes of +HHMM or +HH:MM
unfoldable pub distance : List ℕ → ℕ
distance zone = 60 * field 1 3 zone + number_after 0 (drop (length zone - 2) zone)

-- how many minutes the local time of a zone is ahead of UTC
unfoldable pub zone_offset : List ℕ → ℤ
zone_offset zone =
    if looks_like (codes "Z") zone then pos 0
    else (if slice_index zone 0 == 45 then neg_ℤ (pos (distance zone)) else pos (distance zone))

-- the day number of YYYY-MM-DD
unfoldable pub date_day : List ℕ → ℤ
date_day date = days_from_civil (pos (field 0 4 date)) (field 5 7 date) (field 8 10 date)

-- the second of the day of THH:MM:SS
unfoldable pub time_second : List ℕ → ℕ
time_second time = 3600 * field 1 3 time + 60 * field 4 6 time + field 7 9 time

-- the moment of a date, a time and a zone
unfoldable pub full_moment : List ℕ → ℤ
full_moment text =
    first_second (date_day (take 10 text)) +ℤ pos (time_second (slice_range text 10 19)) -ℤ pos 60 *ℤ zone_offset (drop 19 text)

-- the moment of an ISO text; a date alone is the first second of that day at the offset that is handed in
unfoldable pub iso_moment : List ℕ → ℤ → ℤ
iso_moment text offset =
    if is_date_text text then first_second (date_day text) -ℤ pos 60 *ℤ offset else full_moment text

-- the moment of a form, or None where it is out of range
unfoldable pub moment_of : Form → ℤ → ℤ → Option ℤ
moment_of (Now n) now offset = from_now now offset (λ l. Some (l +ℤ n))
moment_of (Day n) now offset = from_now now offset (λ l. Some (first_second (day_of l +ℤ n)))
moment_of (Week n) now offset = from_now now offset (λ l. Some (first_second (monday_of (day_of l) +ℤ pos 7 *ℤ n)))
moment_of (Month n) now offset = from_now now offset (λ l. month_start (month_number (day_of l) +ℤ n))
moment_of (Year n) now offset = from_now now offset (λ l. month_start ((pos (year_of (day_of l)) +ℤ n) *ℤ pos 12))
moment_of (Iso text) now offset = in_range (iso_moment text offset)

-- the moment that a text tells, or None where it is no ISO text or out of range
unfoldable pub read_as : List ℕ → ℤ → Option ℤ
read_as text offset = if is_iso text then in_range (iso_moment text offset) else None
