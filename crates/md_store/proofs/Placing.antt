-- Facts on places, and on paths beside their slots.
use Rattle.std.proofs.Common.{◌≡◌, ℕ, zero, suc, ◌<◌, ◌≤◌, cond, List, [], ◌∷◌, ◌++◌, length, refl, sym, ap, ◌∙◌, arith, length-append, ◌≢◌}
use Rattle.std.specs.Prelude.{Option, None, Some, slice_get, slice_set}
use Rattle.md_paths.specs.Tables.{next_number, number_in}
use Rattle.md_value.specs.Values.{PathBytes, is_same}
use Rattle.md_value.proofs.Orders.{same_exact, same_sym_false}
use Rattle.md_world.specs.declared.Row.{Row}
use Rattle.std.proofs.lemmas.List.{set_at}
use Rattle.md_world.proofs.Lookups.{by_test, some_inj}
use Rattle.md_store.specs.declared.slot.Slot.{Slot}
use Rattle.md_store.specs.Chains.{with_row_at}
use Rattle.md_store.specs.Places.{Place, places_of, place_in, next_place, place_or, place_for, with_commit, IsCommittedAt}

-- the test is the same both ways
pub same_sym : (p q : PathBytes) → is_same p q ≡ is_same q p
same_sym p q =
    by_test (is_same p q)
    (λ e. ap (is_same p) (sym (same_exact p q e)) ∙ ap (λ x. is_same x p) (same_exact p q e))
    (λ e. e ∙ sym (same_sym_false p q e))

pub length-places_of : (keys : List PathBytes) (slots : List Slot) → length keys ≡ length slots → length (places_of keys slots) ≡ length slots
length-places_of [] [] h = refl
length-places_of [] (s ∷ slots) h = absurd (omega arith)
length-places_of (k ∷ keys) [] h = absurd (omega arith)
length-places_of (k ∷ keys) (s ∷ slots) h = ap suc (length-places_of keys slots (omega arith))

same_next : (o : Option ℕ) → next_number o ≡ next_place o
same_next None = refl
same_next (Some number) = refl

-- a path's number in the table is its place
pub number_places : (path : PathBytes) (keys : List PathBytes) (slots : List Slot) → length keys ≡ length slots → number_in keys path ≡ place_in (places_of keys slots) path
number_places path [] slots h = refl
number_places path (k ∷ keys) [] h = absurd (omega arith)
number_places path (k ∷ keys) (s ∷ slots) h =
    ap (λ o. cond (is_same k path) (Some 0) o) (same_next (number_in keys path) ∙ ap next_place (number_places path keys slots (omega arith)))

pub places_of-push : (keys : List PathBytes) (slots : List Slot) (p : PathBytes) (s : Slot) → length keys ≡ length slots
    → places_of (keys ++ p ∷ []) (slots ++ s ∷ []) ≡ places_of keys slots ++ record { path = p; stamp = s.stamp; rows = s.chain.items } ∷ []
places_of-push [] [] p s h = refl
places_of-push [] (t ∷ slots) p s h = absurd (omega arith)
places_of-push (k ∷ keys) [] p s h = absurd (omega arith)
places_of-push (k ∷ keys) (t ∷ slots) p s h = ap (λ rest. record { path = k; stamp = t.stamp; rows = t.chain.items } ∷ rest) (places_of-push keys slots p s (omega arith))

-- the place that a slot and its path make
pub place_there : (keys : List PathBytes) (slots : List Slot) (i : ℕ) (s : Slot) → length keys ≡ length slots → slice_get slots i ≡ Some s
    → (p : PathBytes) × (slice_get keys i ≡ Some p) × (slice_get (places_of keys slots) i ≡ Some (record { path = p; stamp = s.stamp; rows = s.chain.items }))
place_there [] [] i s h e = cc
place_there [] (t ∷ slots) i s h e = absurd (omega arith)
place_there (k ∷ keys) [] i s h e = cc
place_there (k ∷ keys) (t ∷ slots) zero s h e = let same : t ≡ s = cc in (k, refl, ap (λ (x : Slot). Some (record { path = k; stamp = x.stamp; rows = x.chain.items })) same)
place_there (k ∷ keys) (t ∷ slots) (suc i) s h e = place_there keys slots i s (omega arith) e

pub places_of-set : (keys : List PathBytes) (slots : List Slot) (i : ℕ) (p : PathBytes) (s : Slot) → length keys ≡ length slots → slice_get keys i ≡ Some p
    → places_of keys (slice_set slots i s) ≡ slice_set (places_of keys slots) i (record { path = p; stamp = s.stamp; rows = s.chain.items })
places_of-set [] slots i p s h e = cc
places_of-set (k ∷ keys) [] i p s h e = absurd (omega arith)
places_of-set (k ∷ keys) (t ∷ slots) zero p s h e = let same : k ≡ p = cc in ap (λ (x : PathBytes). record { path = x; stamp = s.stamp; rows = s.chain.items } ∷ places_of keys slots) same
places_of-set (k ∷ keys) (t ∷ slots) (suc i) p s h e = ap (λ rest. record { path = k; stamp = t.stamp; rows = t.chain.items } ∷ rest) (places_of-set keys slots i p s (omega arith) e)

pub map_none : (o : Option ℕ) → next_place o ≡ None → o ≡ None
map_none None h = refl
map_none (Some i) h = cc

pub not_zero_next : (o : Option ℕ) → next_place o ≡ Some zero → ⊥
not_zero_next None h = cc
not_zero_next (Some j) h = cc

pub map_some : (o : Option ℕ) (i : ℕ) → next_place o ≡ Some (suc i) → o ≡ Some i
map_some None i h = cc
map_some (Some j) i h = cc

-- a path without a place goes last
pub commit_new : (places : List Place) (path : PathBytes) (ticket version : ℕ) (row : Option Row) → place_in places path ≡ None
    → with_commit places path ticket version row ≡ places ++ record { path = path; stamp = ticket; rows = with_row_at [] version row } ∷ []
commit_new [] path ticket version row h = refl
commit_new (x ∷ places) path ticket version row h =
    by_test (is_same x.path path)
    (λ b. absurd (some_none (rw b at h)))
    (λ b. rw b (ap (λ rest. x ∷ rest) (commit_new places path ticket version row (map_none (place_in places path) (rw b at h)))))
  where
    some_none : Some zero ≡ None → ⊥
    some_none h = cc

-- a path with a place keeps it
pub commit_at : (places : List Place) (path : PathBytes) (ticket version : ℕ) (row : Option Row) (i : ℕ) (x : Place) → place_in places path ≡ Some i → slice_get places i ≡ Some x
    → with_commit places path ticket version row ≡ slice_set places i (record { path = path; stamp = ticket; rows = with_row_at x.rows version row })
commit_at [] path ticket version row i x h e = cc
commit_at (y ∷ places) path ticket version row zero x h e =
    let same : y ≡ x = cc in
    by_test (is_same y.path path)
    (λ b. rw b (ap (λ (z : Place). record { path = path; stamp = ticket; rows = with_row_at z.rows version row } ∷ places) same))
    (λ b. absurd (not_zero (place_in places path) (rw b at h)))
  where
    not_zero : (o : Option ℕ) → next_place o ≡ Some zero → ⊥
    not_zero None h = cc
    not_zero (Some j) h = cc
commit_at (y ∷ places) path ticket version row (suc i) x h e =
    by_test (is_same y.path path)
    (λ b. absurd (zero_not_suc (rw b at h)))
    (λ b. rw b (ap (λ rest. y ∷ rest) (commit_at places path ticket version row i x (map_some (place_in places path) i (rw b at h)) e)))
  where
    zero_not_suc : Some zero ≡ Some (suc i) → ⊥
    zero_not_suc h = cc

-- a place that a look-up finds is there, with the path
pub place_found : (places : List Place) (path : PathBytes) (i : ℕ) → place_in places path ≡ Some i → (x : Place) × (slice_get places i ≡ Some x) × (x.path ≡ path)
place_found [] path i h = cc
place_found (y ∷ places) path zero h =
    by_test (is_same y.path path)
    (λ b. (y, refl, same_exact y.path path b))
    (λ b. absurd (not_zero (place_in places path) (rw b at h)))
  where
    not_zero : (o : Option ℕ) → next_place o ≡ Some zero → ⊥
    not_zero None h = cc
    not_zero (Some j) h = cc
place_found (y ∷ places) path (suc i) h =
    by_test (is_same y.path path)
    (λ b. absurd (zero_not_suc (rw b at h)))
    (λ b. place_found places path i (map_some (place_in places path) i (rw b at h)))
  where
    zero_not_suc : Some zero ≡ Some (suc i) → ⊥
    zero_not_suc h = cc

pub place_within : (places : List Place) (path : PathBytes) (i : ℕ) → place_in places path ≡ Some i → i < length places
place_within [] path i h = cc
place_within (y ∷ places) path zero h = omega arith
place_within (y ∷ places) path (suc i) h =
    by_test (is_same y.path path)
    (λ b. absurd (zero_not_suc (rw b at h)))
    (λ b. let rest = place_within places path i (map_some (place_in places path) i (rw b at h)) in omega arith)
  where
    zero_not_suc : Some zero ≡ Some (suc i) → ⊥
    zero_not_suc h = cc

next_by : (places : List Place) (path : PathBytes) (o : Option ℕ) → place_in places path ≡ o → (n : ℕ) → n ≡ place_or (length places) o → n ≡ length places → o ≡ None
next_by places path None e n h k = refl
next_by places path (Some i) e n h k = let lt = place_within places path i e in absurd (omega arith)

-- the next place is that of a path that has none
pub for_next : (places : List Place) (path : PathBytes) (n : ℕ) → n ≡ place_for places path → n ≡ length places → place_in places path ≡ None
for_next places path n h k = next_by places path (place_in places path) refl n h k

there_by : (places : List Place) (path : PathBytes) (o : Option ℕ) (n : ℕ) → n ≡ place_or (length places) o → n ≢ length places → o ≡ Some n
there_by places path None n h k = absurd (k h)
there_by places path (Some i) n h k = ap Some (sym h)

-- and each other place is that of a path that has it
pub for_there : (places : List Place) (path : PathBytes) (n : ℕ) → n ≡ place_for places path → n ≢ length places → place_in places path ≡ Some n
for_there places path n h k = there_by places path (place_in places path) n h k

pub get_last : {A : Type 0} (xs : List A) (x : A) (n : ℕ) → n ≡ length xs → slice_get (xs ++ x ∷ []) n ≡ Some x
get_last [] x n h = rw h refl
get_last (y ∷ xs) x zero h = absurd (omega arith)
get_last (y ∷ xs) x (suc n) h = get_last xs x n (omega arith)

-- a commit at a place that was put at the end
pub commit_pushed : (keys : List PathBytes) (slots : List Slot) (path : PathBytes) (s : Slot) (n ticket version : ℕ) (row : Option Row) (new : List Slot) → length keys ≡ length slots → n ≡ length slots
    → place_in (places_of keys slots) path ≡ None → s.chain.items ≡ [] → IsCommittedAt (slots ++ s ∷ []) new n ticket version row
    → places_of (keys ++ path ∷ []) new ≡ with_commit (places_of keys slots) path ticket version row
commit_pushed keys slots path s n ticket version row new same at absent empty h =
    let before : s ≡ h.before = some_inj s h.before (sym (get_last slots s n at) ∙ h.there) in
    let stamp = h.stamp in
    let rows : h.after.chain.items ≡ with_row_at [] version row = h.rows ∙ ap (λ (x : Slot). with_row_at x.chain.items version row) (sym before) ∙ ap (λ c. with_row_at c version row) empty in
    let key : slice_get (keys ++ path ∷ []) n ≡ Some path = get_last keys path n (omega arith) in
    let lengths : length (keys ++ path ∷ []) ≡ length (slots ++ s ∷ []) = omega (arith, length-append keys (path ∷ []), length-append slots (s ∷ [])) in
    let count = length-places_of keys slots same in
    ap (places_of (keys ++ path ∷ [])) h.set ∙ places_of-set (keys ++ path ∷ []) (slots ++ s ∷ []) n path h.after lengths key
    ∙ ap (λ ps. slice_set ps n (record { path = path; stamp = h.after.stamp; rows = h.after.chain.items })) (places_of-push keys slots path s same)
    ∙ set_at (places_of keys slots) (record { path = path; stamp = s.stamp; rows = s.chain.items }) [] (record { path = path; stamp = h.after.stamp; rows = h.after.chain.items }) n (omega arith)
    ∙ ap (λ (t : ℕ). places_of keys slots ++ record { path = path; stamp = t; rows = h.after.chain.items } ∷ []) stamp
    ∙ ap (λ c. places_of keys slots ++ record { path = path; stamp = ticket; rows = c } ∷ []) rows
    ∙ sym (commit_new (places_of keys slots) path ticket version row absent)

-- a commit at a place that was there
pub commit_there : (keys : List PathBytes) (slots : List Slot) (path : PathBytes) (n ticket version : ℕ) (row : Option Row) (new : List Slot) → length keys ≡ length slots
    → place_in (places_of keys slots) path ≡ Some n → IsCommittedAt slots new n ticket version row → places_of keys new ≡ with_commit (places_of keys slots) path ticket version row
commit_there keys slots path n ticket version row new same at h =
    let t = place_there keys slots n h.before same h.there in
    let x : Place = record { path = t.0; stamp = h.before.stamp; rows = h.before.chain.items } in
    let f = place_found (places_of keys slots) path n at in
    let is : x ≡ f.0 = some_inj x f.0 (sym t.2 ∙ f.1) in
    let own : t.0 ≡ path = ap (λ (y : Place). y.path) is ∙ f.2 in
    let stamp = h.stamp in
    let rows = h.rows in
    ap (places_of keys) h.set ∙ places_of-set keys slots n t.0 h.after same t.1
    ∙ ap (λ (p : PathBytes). slice_set (places_of keys slots) n (record { path = p; stamp = h.after.stamp; rows = h.after.chain.items })) own
    ∙ ap (λ (k : ℕ). slice_set (places_of keys slots) n (record { path = path; stamp = k; rows = h.after.chain.items })) stamp
    ∙ ap (λ c. slice_set (places_of keys slots) n (record { path = path; stamp = ticket; rows = c })) rows
    ∙ sym (commit_at (places_of keys slots) path ticket version row n x at t.2)

-- a place that a look-up finds has a slot
pub slot_within : (keys : List PathBytes) (slots : List Slot) (path : PathBytes) (i : ℕ) → length keys ≡ length slots → place_in (places_of keys slots) path ≡ Some i → i < length slots
slot_within keys slots path i same h =
    let lt = place_within (places_of keys slots) path i h in
    let count = length-places_of keys slots same in
    omega arith

for_le_by : (places : List Place) (path : PathBytes) (o : Option ℕ) → place_in places path ≡ o → place_or (length places) o ≤ length places
for_le_by places path None e = omega arith
for_le_by places path (Some i) e = let lt = place_within places path i e in omega arith

pub for_le : (places : List Place) (path : PathBytes) → place_for places path ≤ length places
for_le places path = for_le_by places path (place_in places path) refl
