-- An ISO text is ASCII.
use Rattle.std.proofs.Common.{◌≡◌, ℕ, ◌<◌, true, ◌&&◌, ◌||◌, List, [], ◌∷◌, ◌++◌, take, drop, sym, ap, ◌∙◌, inl, inr, arith, codes, subst, zero, suc, nat_lt, refl}
use Rattle.std.specs.Str.{IsAscii}
use Rattle.std.proofs.lemmas.Str.{IsAscii-append}
use Rattle.std.proofs.lemmas.Str.Ascii.{IsAscii-nil}
use Rattle.std.proofs.lemmas.List.{take-append-drop}
use Rattle.std.proofs.lemmas.List.Folds.{drop_split}
use Rattle.std.proofs.lemmas.Bool.Decides.{nat_tests}
use Rattle.std.specs.Int.{is_in_range}
use Rattle.std.specs.List.{list_all, slice_range}
use Rattle.md_time.specs.IsoTexts.{stands_for, looks_like, field, is_date_text, is_time_text, is_plain_distance, is_colon_distance, is_zone_text, is_full_text, is_iso}
use Rattle.md_time.proofs.PaddedText.{and_left, and_right, or_cases, full-date, full-zone}

ascii-cons : (c : ℕ) (cs : List ℕ) → c < 128 → IsAscii cs → IsAscii (c ∷ cs)
ascii-cons c cs h rest zero = h
ascii-cons c cs h rest (suc i) = rest i

ascii-stands_for : (p c : ℕ) → nat_lt p 128 ≡ true → stands_for p c ≡ true → c < 128
ascii-stands_for p c h stands = grind (arith, nat_tests)

ascii-looks_like : (ps cs : List ℕ) → list_all (λ p. nat_lt p 128) ps ≡ true → looks_like ps cs ≡ true → IsAscii cs
ascii-looks_like [] [] h looks = IsAscii-nil
ascii-looks_like [] (c ∷ cs) h looks = absurd cc
ascii-looks_like (p ∷ ps) [] h looks = absurd cc
ascii-looks_like (p ∷ ps) (c ∷ cs) h looks =
    ascii-cons c cs
    (ascii-stands_for p c (and_left (nat_lt p 128) _ h) (and_left (stands_for p c) (looks_like ps cs) looks))
    (ascii-looks_like ps cs (and_right (nat_lt p 128) _ h) (and_right (stands_for p c) (looks_like ps cs) looks))

ascii-date : (t : List ℕ) → is_date_text t ≡ true → IsAscii t
ascii-date t h = ascii-looks_like (codes "0000-00-00") t refl (and_left (looks_like (codes "0000-00-00") t) _ h)

ascii-time : (t : List ℕ) → is_time_text t ≡ true → IsAscii t
ascii-time t h =
    let hour = looks_like (codes "T00:00:00") t && is_in_range 0 23 (field 1 3 t) in
    let minute = hour && is_in_range 0 59 (field 4 6 t) in
    ascii-looks_like (codes "T00:00:00") t refl (and_left (looks_like (codes "T00:00:00") t) _ (and_left hour _ (and_left minute _ h)))

ascii-zone : (t : List ℕ) → is_zone_text t ≡ true → IsAscii t
ascii-zone t h = elim (or_cases (looks_like (codes "Z") t || is_plain_distance t) (is_colon_distance t) h) [
  | inl short ↦ elim (or_cases (looks_like (codes "Z") t) (is_plain_distance t) short) [
    | inl z ↦ ascii-looks_like (codes "Z") t refl z
    | inr plain ↦ ascii-looks_like (codes "+0000") t refl (and_left (looks_like (codes "+0000") t) _ (and_left (looks_like (codes "+0000") t && is_in_range 0 23 (field 1 3 t)) _ plain))
  ]
  | inr colon ↦ ascii-looks_like (codes "+00:00") t refl (and_left (looks_like (codes "+00:00") t) _ (and_left (looks_like (codes "+00:00") t && is_in_range 0 23 (field 1 3 t)) _ colon))
]

full-time : (t : List ℕ) → is_full_text t ≡ true → is_time_text (slice_range t 10 19) ≡ true
full-time t h = and_right (is_date_text (take 10 t)) (is_time_text (slice_range t 10 19)) (and_left (is_date_text (take 10 t) && is_time_text (slice_range t 10 19)) (is_zone_text (drop 19 t)) h)

ascii-full : (t : List ℕ) → is_full_text t ≡ true → IsAscii t
ascii-full t h =
    let parts : take 10 t ++ (slice_range t 10 19 ++ drop 19 t) ≡ t =
    ap (λ rest. take 10 t ++ rest) (sym (drop_split t 10 19 (omega arith))) ∙ take-append-drop 10 t in
    subst (λ (xs : List ℕ). IsAscii xs) parts
    (IsAscii-append _ _ (ascii-date (take 10 t) (full-date t h))
    (IsAscii-append _ _ (ascii-time (slice_range t 10 19) (full-time t h)) (ascii-zone (drop 19 t) (full-zone t h))))

pub ascii-iso : (t : List ℕ) → is_iso t ≡ true → IsAscii t
ascii-iso t h = elim (or_cases (is_date_text t) (is_full_text t) h) [
  | inl date ↦ ascii-date t date
  | inr full ↦ ascii-full t full
]
