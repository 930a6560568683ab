-- What a vacuum leaves of slots.
use Rattle.std.proofs.Common.{◌≡◌, ℕ, zero, suc, ◌+◌, ◌<◌, ◌≤◌, List, [], ◌∷◌, map, length, get_or, refl, ap, ◌∙◌, arith}
use Rattle.std.specs.Prelude.{slice_set}
use Rattle.md_value.specs.Values.{PathBytes}
use Rattle.md_store.specs.declared.chain.KeptRow.{KeptRow}
use Rattle.md_store.specs.declared.slot.Slot.{Slot}
use Rattle.md_store.specs.Places.{places_of, places_seen, kept_of, bare, bare_seen, rows_in}

pub lives_set : (xs : List (ℕ × List KeptRow)) (i : ℕ) (x y : ℕ × List KeptRow) → i < length xs → x ≡ get_or xs i x → rows_in (slice_set xs i y) + length x.1 ≡ rows_in xs + length y.1
lives_set [] i x y lt e = absurd (omega arith)
lives_set (z ∷ xs) zero x y lt e = let same : length x.1 ≡ length z.1 = ap (λ (b : ℕ × List KeptRow). length b.1) e in omega arith
lives_set (z ∷ xs) (suc i) x y lt e = let rest = lives_set xs i x y (omega arith) e in omega arith

pub lives_at : (xs : List (ℕ × List KeptRow)) (i : ℕ) (x : ℕ × List KeptRow) → i < length xs → x ≡ get_or xs i x → length x.1 ≤ rows_in xs
lives_at [] i x lt e = absurd (omega arith)
lives_at (z ∷ xs) zero x lt e = let same : length x.1 ≡ length z.1 = ap (λ (b : ℕ × List KeptRow). length b.1) e in omega arith
lives_at (z ∷ xs) (suc i) x lt e = let rest = lives_at xs i x (omega arith) e in omega arith

-- the rows in slots are those of their places
pub lives_kept : (keys : List PathBytes) (slots : List Slot) → length keys ≡ length slots → kept_of (places_of keys slots) ≡ rows_in (map bare slots)
lives_kept [] [] h = refl
lives_kept [] (s ∷ slots) h = absurd (omega arith)
lives_kept (k ∷ keys) [] h = absurd (omega arith)
lives_kept (k ∷ keys) (s ∷ slots) h = ap (λ (n : ℕ). length s.chain.items + n) (lives_kept keys slots (omega arith))

-- the places of slots of which rows were given up
pub places_given : (n : ℕ) (pins : List ℕ) (keys : List PathBytes) (slots new : List Slot) → length keys ≡ length slots → map bare new ≡ map (bare_seen n pins) (map bare slots)
    → places_of keys new ≡ places_seen n pins (places_of keys slots)
places_given n pins [] slots new h e = refl
places_given n pins (k ∷ keys) [] new h e = absurd (omega arith)
places_given n pins (k ∷ keys) (s ∷ slots) [] h e = cc
places_given n pins (k ∷ keys) (s ∷ slots) (t ∷ new) h e =
    let head : bare t ≡ bare_seen n pins (bare s) = cc in
    let tail : map bare new ≡ map (bare_seen n pins) (map bare slots) = cc in
    ap (λ (b : ℕ × List KeptRow). record { path = k; stamp = b.0; rows = b.1 } ∷ places_of keys new) head
    ∙ ap (λ rest. record { path = k; stamp = s.stamp; rows = (bare_seen n pins (bare s)).1 } ∷ rest) (places_given n pins keys slots new (omega arith) tail)

pub bare_read : (slots : List Slot) (i : ℕ) (s : Slot) → i < length slots → s ≡ get_or slots i s → bare s ≡ get_or (map bare slots) i (bare s)
bare_read [] i s lt e = absurd (omega arith)
bare_read (t ∷ slots) zero s lt e = ap bare e
bare_read (t ∷ slots) (suc i) s lt e = bare_read slots i s (omega arith) e
