-- What room leaves as it was.
use Rattle.std.proofs.Common.{◌≡◌, ◌⊎◌, inl, inr, ℕ, zero, suc, ◌+◌, ◌<◌, ◌≤◌, List, [], ◌∷◌, refl, sym, ap, ◌∙◌, subst, arith}
use Rattle.std.specs.Prelude.{Some, slice_get, slice_set, vec_len, vec_capacity}
use Rattle.md_value.specs.Values.{PathBytes}
use Rattle.md_world.proofs.Lookups.{some_inj}
use Rattle.md_store.specs.declared.slot.Slot.{Slot}
use Rattle.md_store.specs.Places.{places_of, HasRowRoom}

-- a slot with the same stamp and rows is seen as it was
pub places_alike : (keys : List PathBytes) (slots : List Slot) (i : ℕ) (old new : Slot) → slice_get slots i ≡ Some old → new.stamp ≡ old.stamp → new.chain.items ≡ old.chain.items
    → places_of keys (slice_set slots i new) ≡ places_of keys slots
places_alike [] slots i old new h s c = refl
places_alike (k ∷ keys) [] i old new h s c = refl
places_alike (k ∷ keys) (t ∷ slots) zero old new h s c =
    let same : old ≡ t = sym (some_inj t old h) in
    ap (λ (n : ℕ). record { path = k; stamp = n; rows = new.chain.items } ∷ places_of keys slots) s
    ∙ ap (λ items. record { path = k; stamp = old.stamp; rows = items } ∷ places_of keys slots) c
    ∙ ap (λ (x : Slot). record { path = k; stamp = x.stamp; rows = x.chain.items } ∷ places_of keys slots) same
places_alike (k ∷ keys) (t ∷ slots) (suc i) old new h s c =
    ap (λ rest. record { path = k; stamp = t.stamp; rows = t.chain.items } ∷ rest) (places_alike keys slots i old new h s c)

-- what a list has after a write: the new item at its place, or what it had
pub get_set : {A : Type 0} (xs : List A) (i : ℕ) (y : A) (k : ℕ) (z : A) → slice_get (slice_set xs i y) k ≡ Some z → ((k ≡ i) × (y ≡ z)) ⊎ (slice_get xs k ≡ Some z)
get_set [] i y k z h = inr h
get_set (x ∷ xs) zero y zero z h = inl (refl, some_inj y z h)
get_set (x ∷ xs) zero y (suc k) z h = inr h
get_set (x ∷ xs) (suc i) y zero z h = inr h
get_set (x ∷ xs) (suc i) y (suc k) z h =
    elim (get_set xs i y k z h) [
      | inl e ↦ inl (ap suc e.0, e.1)
      | inr e ↦ inr e
    ]

pub room_kept : (slots : List Slot) (i : ℕ) (old new : Slot) → slice_get slots i ≡ Some old → vec_len new.chain ≡ vec_len old.chain → vec_capacity old.chain ≤ vec_capacity new.chain
    → (k : ℕ) → HasRowRoom slots k → HasRowRoom (slice_set slots i new) k
room_kept slots i old new h len cap k room slot e =
    elim (get_set slots i new k slot e) [
      | inl w ↦
          let there : slice_get slots k ≡ Some old = ap (slice_get slots) w.0 ∙ h in
          let before = room old there in
          let more : vec_len new.chain < vec_capacity new.chain = omega arith in
          subst (λ (x : Slot). vec_len x.chain < vec_capacity x.chain) w.1 more
      | inr w ↦ room slot w
    ]

-- the slot that is written has the room that it was given
pub room_made : (slots : List Slot) (i : ℕ) (old new : Slot) → slice_get slots i ≡ Some old → vec_len new.chain + 1 ≤ vec_capacity new.chain → HasRowRoom (slice_set slots i new) i
room_made [] i old new h room slot e = cc
room_made (x ∷ slots) zero old new h room slot e = subst (λ (y : Slot). vec_len y.chain < vec_capacity y.chain) (some_inj new slot e) (omega arith)
room_made (x ∷ slots) (suc i) old new h room slot e = room_made slots i old new h room slot e
