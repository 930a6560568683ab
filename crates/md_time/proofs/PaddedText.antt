-- An ISO text fits 25 bytes, and is held in them.
use Rattle.std.proofs.Common.{◌≡◌, ℕ, suc, ◌≤◌, Bool, true, false, ◌&&◌, ◌||◌, List, [], ◌∷◌, ◌++◌, length, take, drop, refl, sym, ap, ◌∙◌, ◌⊎◌, inl, inr, IsUtf8, arith, codes}
use Rattle.std.proofs.Math.ListN.{replicate}
use Rattle.std.proofs.Math.Seq.{take-append_seam}
use Rattle.std.proofs.lemmas.List.{drop-replicate, length-drop}
use Rattle.std.proofs.lemmas.Bool.{cases_order}
use Rattle.std.specs.Int.{is_in_range}
use Rattle.std.specs.List.{slice_range}
use Rattle.md_time.specs.IsoTexts.{looks_like, is_date_text, is_time_text, is_plain_distance, is_colon_distance, is_zone_text, is_full_text, is_iso, is_calendar_date, field}
use Rattle.md_time.specs.PaddedText.{IsPadded}
use Rattle.md_time.proofs.Pictures.{short_is_not_full}

pub and_left : (a b : Bool) → (a && b) ≡ true → a ≡ true
and_left true b h = refl
and_left false b h = h

pub and_right : (a b : Bool) → (a && b) ≡ true → b ≡ true
and_right true b h = h
and_right false b h = absurd cc

pub or_cases : (a b : Bool) → (a || b) ≡ true → (a ≡ true) ⊎ (b ≡ true)
or_cases true b h = inl refl
or_cases false b h = inr h

pub length-looks_like : (ps cs : List ℕ) → looks_like ps cs ≡ true → length ps ≡ length cs
length-looks_like [] [] h = refl
length-looks_like [] (c ∷ cs) h = absurd cc
length-looks_like (p ∷ ps) [] h = absurd cc
length-looks_like (p ∷ ps) (c ∷ cs) h = ap suc (length-looks_like ps cs (and_right _ _ h))

length-date : (t : List ℕ) → is_date_text t ≡ true → length t ≡ 10
length-date t h = sym (length-looks_like (codes "0000-00-00") t (and_left _ _ h))

length-plain : (t : List ℕ) → is_plain_distance t ≡ true → length t ≡ 5
length-plain t h = sym (length-looks_like (codes "+0000") t (and_left _ _ (and_left (looks_like (codes "+0000") t && is_in_range 0 23 (field 1 3 t)) _ h)))

length-colon : (t : List ℕ) → is_colon_distance t ≡ true → length t ≡ 6
length-colon t h = sym (length-looks_like (codes "+00:00") t (and_left _ _ (and_left (looks_like (codes "+00:00") t && is_in_range 0 23 (field 1 3 t)) _ h)))

length-zone : (t : List ℕ) → is_zone_text t ≡ true → length t ≤ 6
length-zone t h = elim (or_cases (looks_like (codes "Z") t || is_plain_distance t) (is_colon_distance t) h) [
  | inl short ↦ elim (or_cases (looks_like (codes "Z") t) (is_plain_distance t) short) [
    | inl z ↦ let e : 1 ≡ length t = length-looks_like (codes "Z") t z in omega arith
    | inr plain ↦ let e = length-plain t plain in omega arith
  ]
  | inr colon ↦ let e = length-colon t colon in omega arith
]

pub date-calendar : (t : List ℕ) → is_date_text t ≡ true → is_calendar_date (field 0 4 t) (field 5 7 t) (field 8 10 t) ≡ true
date-calendar t h = and_right (looks_like (codes "0000-00-00") t) _ h

-- what makes a text one with a date, a time and a zone
pub full-date : (t : List ℕ) → is_full_text t ≡ true → is_date_text (take 10 t) ≡ true
full-date t h = and_left _ (is_time_text (slice_range t 10 19)) (and_left (is_date_text (take 10 t) && is_time_text (slice_range t 10 19)) (is_zone_text (drop 19 t)) h)

pub full-zone : (t : List ℕ) → is_full_text t ≡ true → is_zone_text (drop 19 t) ≡ true
full-zone t h = and_right (is_date_text (take 10 t) && is_time_text (slice_range t 10 19)) (is_zone_text (drop 19 t)) h

pub full-long : (t : List ℕ) → is_full_text t ≡ true → 19 ≤ length t
full-long t h = elim (cases_order 19 (length t)) [
  | inl same ↦ omega arith
  | inr (inl lt) ↦ omega arith
  | inr (inr gt) ↦ absurd (let e : true ≡ false = sym h ∙ short_is_not_full t (omega arith) in cc)
]

pub iso-full : (t : List ℕ) → is_iso t ≡ true → is_date_text t ≡ false → is_full_text t ≡ true
iso-full t h other = elim (or_cases (is_date_text t) (is_full_text t) h) [ inl date ↦ absurd (let e : true ≡ false = sym date ∙ other in cc) | inr full ↦ full ]

pub length-iso : (t : List ℕ) → is_iso t ≡ true → length t ≤ 25
length-iso t h = elim (or_cases (is_date_text t) (is_full_text t) h) [
  | inl date ↦ let e = length-date t date in omega arith
  | inr full ↦ let e = length-zone (drop 19 t) (and_right (is_date_text (take 10 t) && is_time_text (slice_range t 10 19)) _ full) in omega (arith, length-drop 19 t)
]

pub is_padded : (t : List ℕ) → is_iso t ≡ true → IsUtf8 t → IsPadded (t ++ drop (length t) (replicate 25 0)) (length t)
is_padded t iso utf8 =
    let prefix : take (length t) (t ++ drop (length t) (replicate 25 0)) ≡ t = take-append_seam _ _ in
    record {
      len_is = ap length prefix;
      bytes_are = rw prefix (ap (λ zeros. t ++ zeros) (sym (drop-replicate (length t) 25 0)));
      iso = rw prefix iso;
      utf8 = rw prefix utf8;
    }
