-- The year and the month of a day are those of its date.
use Rattle.std.proofs.Common.{◌≡◌, ℕ, zero, suc, ◌+◌, ◌-◌, ◌<◌, inl, inr, Bool, true, false, not, int_lt, refl, sym, ap, ◌∙◌, arith, ℤ, pos, negsuc, neg_ℤ, ◌-ℤ◌, ◌<ℤ◌, ◌≤ℤ◌, unsigned_abs}
use Rattle.std.proofs.lemmas.Bool.{cases_order}
use Rattle.std.proofs.lemmas.Int.{by_lt_z}
use Rattle.jiff_core.specs.declared.civil.date.Date.{Date}
use Rattle.jiff_core.specs.Calendar.{day_count, days_from_civil, IsCivilDate}
use Rattle.jiff_core.specs.Date.{epoch_day}
use Rattle.jiff_core.proofs.SignedLemmas.{signed_arith}
use Rattle.jiff_core.proofs.CalendarLemmas.{days_from_civil-day_count, day_count-day_of_year, day_count-day, day_count-lt_year, day_count-lt_month}
use Rattle.jiff_core.proofs.MarchLemmas.{day_count-early}
use Rattle.jiff_core.proofs.DateLemmas.{civil, days_from_civil-day}
use Rattle.md_time.specs.Moments.{IsDay, greatest_below, year_of, month_of, day_of_month}

pub greatest_below_is : (n : ℕ) (p : ℕ → Bool) (k : ℕ) → k < n → p k ≡ true → ((j : ℕ) → k < j → p j ≡ false) → greatest_below n p ≡ k
unfolding greatest_below
greatest_below_is zero p k h at after = absurd (omega arith)
greatest_below_is (suc n) p k h at after = elim (cases_order k n) [
  | inl same ↦ rw (ap p (sym same) ∙ at) (sym same)
  | inr (inl lt) ↦ rw (after n lt) (greatest_below_is n p k lt at after)
  | inr (inr gt) ↦ absurd (omega arith)
]

not_after : (a b : ℤ) → b ≤ℤ a → not (int_lt a b) ≡ true
not_after a b h = grind (arith, signed_arith)

is_after : (a b : ℤ) → a <ℤ b → not (int_lt a b) ≡ false
is_after a b h = grind (arith, signed_arith)

pub year_of-civil : (y m d : ℕ) → IsCivilDate (pos y) m d → year_of (days_from_civil (pos y) m d) ≡ y
year_of-civil y m d h =
    let begun : days_from_civil (pos y) 1 1 ≤ℤ days_from_civil (pos y) m d =
    omega (arith, signed_arith, h.2, days_from_civil-day_count, day_count-day_of_year (pos y) m d h.2.0) in
    let later : (j : ℕ) → y < j → days_from_civil (pos y) m d <ℤ days_from_civil (pos j) 1 1 =
    λ j lt. omega (arith, signed_arith, days_from_civil-day_count, day_count-lt_year (pos y) m d (pos j) 1 1 h (omega arith) (omega (arith, signed_arith))) in
    let small : y < 10000 = omega (arith, signed_arith, h.0) in
    greatest_below_is 10000 (λ n. not (int_lt (days_from_civil (pos y) m d) (days_from_civil (pos n) 1 1))) y small
    (not_after _ _ begun) (λ j lt. is_after _ _ (later j lt))

pub month_of-civil : (y m d : ℕ) → IsCivilDate (pos y) m d → month_of (days_from_civil (pos y) m d) ≡ m
month_of-civil y m d h =
    let begun : days_from_civil (pos y) m 1 ≤ℤ days_from_civil (pos y) m d =
    omega (arith, signed_arith, h.2, days_from_civil-day_count, day_count-day (pos y) m d 1 h.2.0 (omega arith)) in
    let later : (j : ℕ) → m < j → days_from_civil (pos y) m d <ℤ days_from_civil (pos y) j 1 =
    λ j lt. omega (arith, signed_arith, days_from_civil-day_count, day_count-lt_month (pos y) m d j 1 h (omega arith) lt) in
    let small : m < 13 = omega (arith, h.1) in
    ap (λ year. greatest_below 13 (λ n. not (int_lt (days_from_civil (pos y) m d) (days_from_civil (pos year) n 1)))) (year_of-civil y m d h)
    ∙ greatest_below_is 13 (λ n. not (int_lt (days_from_civil (pos y) m d) (days_from_civil (pos y) n 1))) m small
    (not_after _ _ begun) (λ j lt. is_after _ _ (later j lt))

day_count-one : day_count (pos 1) 1 1 ≡ 3_652_791
day_count-one = day_count-early (pos 1) 10000 1 1 refl (omega arith) (omega arith) (omega arith)

-- the days from 0001-01-01 on have a year of at least 1
year_low : (d : Date) → neg_ℤ (pos 719_162) ≤ℤ epoch_day d → pos 1 ≤ℤ d.year
year_low d h =
    by_lt_z d.year (pos 1)
    (λ lt. absurd (omega (arith, signed_arith, days_from_civil-day_count, day_count-one, day_count-lt_year d.year d.month d.day (pos 1) 1 1 (civil d) (omega arith) lt)))
    (λ ge. ge)

positive : (z : ℤ) → pos 1 ≤ℤ z → z ≡ pos (unsigned_abs z)
positive (pos n) h = refl
positive (negsuc n) h = absurd (omega (arith, signed_arith))

pub year_of_is : (day : ℤ) (date : Date) → IsDay day → epoch_day date ≡ day → pos (year_of day) ≡ date.year
year_of_is day date h same =
    let low = year_low date (rw same h.0) in
    let y = unsigned_abs date.year in
    let e : date.year ≡ pos y = positive date.year low in
    let at : days_from_civil (pos y) date.month date.day ≡ day = rw (← e) same in
    rw (← at) (ap (λ n. pos n) (year_of-civil y date.month date.day (rw (← e) (civil date))) ∙ sym e)

pub month_of_is : (day : ℤ) (date : Date) → IsDay day → epoch_day date ≡ day → month_of day ≡ date.month
month_of_is day date h same =
    let low = year_low date (rw same h.0) in
    let y = unsigned_abs date.year in
    let e : date.year ≡ pos y = positive date.year low in
    let at : days_from_civil (pos y) date.month date.day ≡ day = rw (← e) same in
    rw (← at) (month_of-civil y date.month date.day (rw (← e) (civil date)))

pub day_of_month_is : (day : ℤ) (date : Date) → IsDay day → epoch_day date ≡ day → day_of_month day ≡ date.day
day_of_month_is day date h same =
    let first = days_from_civil-day date.year date.month date.day 1 date.day_in.0 (omega arith) in
    let gap : day -ℤ days_from_civil date.year date.month 1 ≡ pos (date.day - 1) = omega (arith, signed_arith, date.day_in.0) in
    let size : unsigned_abs (day -ℤ days_from_civil date.year date.month 1) ≡ date.day - 1 = ap unsigned_abs gap in
    let last : unsigned_abs (day -ℤ days_from_civil date.year date.month 1) + 1 ≡ date.day = omega (arith, date.day_in.0) in
    ap (λ y. unsigned_abs (day -ℤ days_from_civil y (month_of day) 1) + 1) (year_of_is day date h same)
    ∙ ap (λ m. unsigned_abs (day -ℤ days_from_civil date.year m 1) + 1) (month_of_is day date h same)
    ∙ last
