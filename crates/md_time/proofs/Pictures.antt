-- Texts that are too short for a date, a time and a zone.
use Rattle.std.proofs.Common.{◌≡◌, ℕ, ◌≤◌, Bool, true, false, ◌&&◌, List, length, refl, ap, ◌∙◌, take}
use Rattle.std.proofs.Math.ListN.{drop_of_length-le}
use Rattle.std.specs.List.{slice_range}
use Rattle.md_time.specs.IsoTexts.{is_date_text, is_time_text, is_zone_text, is_full_text}

and_false : (b : Bool) → (b && false) ≡ false
and_false true = refl
and_false false = refl

pub short_is_not_full : (xs : List ℕ) → length xs ≤ 19 → is_full_text xs ≡ false
short_is_not_full xs h = ap (λ rest. is_date_text (take 10 xs) && is_time_text (slice_range xs 10 19) && is_zone_text rest) (drop_of_length-le xs h) ∙ and_false _
