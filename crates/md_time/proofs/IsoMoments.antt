-- The moments of ISO texts, by their form.
use Rattle.std.proofs.Common.{◌≡◌, ℕ, ◌-◌, true, false, None, if◌then◌else◌, List, length, take, drop, refl, ap, sym, ◌∙◌, ℤ, pos, ◌+ℤ◌, ◌-ℤ◌, ◌*ℤ◌}
use Rattle.std.proofs.lemmas.List.{length-drop}
use Rattle.std.proofs.Math.Seq.{take-length}
use Rattle.std.specs.List.{slice_range}
use Rattle.md_time.specs.IsoTexts.{is_date_text, is_iso}
use Rattle.md_time.specs.Moments.{first_second, date_day, time_second, zone_offset, full_moment, iso_moment, in_range, read_as}

pub take_rest : (n : ℕ) (xs : List ℕ) → take (length xs - n) (drop n xs) ≡ drop n xs
take_rest n xs = ap (λ k. take k (drop n xs)) (sym (length-drop n xs)) ∙ take-length (drop n xs)

pub full_moment-is : (t : List ℕ) → full_moment t ≡ first_second (date_day (take 10 t)) +ℤ pos (time_second (slice_range t 10 19)) -ℤ pos 60 *ℤ zone_offset (drop 19 t)
unfolding full_moment
full_moment-is t = refl

pub iso_moment-date : (t : List ℕ) (offset : ℤ) → is_date_text t ≡ true → iso_moment t offset ≡ first_second (date_day t) -ℤ pos 60 *ℤ offset
unfolding iso_moment
iso_moment-date t offset h = ap (λ b. if b then first_second (date_day t) -ℤ pos 60 *ℤ offset else full_moment t) h

pub iso_moment-full : (t : List ℕ) (offset : ℤ) → is_date_text t ≡ false → iso_moment t offset ≡ full_moment t
unfolding iso_moment
iso_moment-full t offset h = ap (λ b. if b then first_second (date_day t) -ℤ pos 60 *ℤ offset else full_moment t) h

pub read_as-iso : (t : List ℕ) (offset : ℤ) → is_iso t ≡ true → read_as t offset ≡ in_range (iso_moment t offset)
unfolding read_as
read_as-iso t offset h = ap (λ b. if b then in_range (iso_moment t offset) else None) h
