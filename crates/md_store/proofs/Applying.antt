-- What a commit keeps of a store.
use Rattle.std.proofs.Common.{◌≡◌, ℕ, zero, suc, ◌<◌, ◌≤◌, Bool, true, false, cond, List, [], ◌∷◌, length, refl, sym, ◌∙◌, subst, arith, length-append, length-set}
use Rattle.std.specs.Prelude.{Option, None, Some, nat_lt, slice_get}
use Rattle.std.proofs.lemmas.Bool.Decides.{nat_tests}
use Rattle.md_value.specs.Values.{PathBytes}
use Rattle.md_world.specs.declared.Row.{Row}
use Rattle.md_world.specs.Tickets.{Ticket, ticket_at}
use Rattle.md_world.proofs.Lookups.{some_inj}
use Rattle.md_store.specs.declared.slot.Slot.{Slot}
use Rattle.md_store.specs.declared.ready.ReadyEnd.TheVariants as end
use Rattle.md_store.specs.Chains.{IsOrdered, with_row_at, one_if}
use Rattle.md_store.specs.Places.{Place, places_of, place_in, with_commit, ArePlaces}
use Rattle.md_store.specs.Stores.{Stored, refusal}
use Rattle.md_store.proofs.Placing.{place_there, place_found, commit_new, commit_at}
use Rattle.md_store.proofs.Refusing.{refusal_absent}

places_ordered : (n : ℕ) (places : List Place) (i : ℕ) (x : Place) → ArePlaces n places → slice_get places i ≡ Some x → IsOrdered x.rows
places_ordered n [] i x h e = cc
places_ordered n (y ∷ places) zero x h e = let same : y ≡ x = some_inj y x e in subst (λ (z : Place). IsOrdered z.rows) same h.0.ordered
places_ordered n (y ∷ places) (suc i) x h e = places_ordered n places i x h.2 e

-- the rows of a slot are in order
pub slot_ordered : (n : ℕ) (keys : List PathBytes) (slots : List Slot) (i : ℕ) (s : Slot) → length keys ≡ length slots → ArePlaces n (places_of keys slots) → slice_get slots i ≡ Some s → IsOrdered s.chain.items
slot_ordered n keys slots i s same h e =
    let t = place_there keys slots i s same e in
    places_ordered n (places_of keys slots) i (record { path = t.0; stamp = s.stamp; rows = s.chain.items }) h t.2

allowed_room : (b : Bool) → cond b None (Some end.StoreFull) ≡ None → b ≡ true
allowed_room true h = refl
allowed_room false h = cc

length_by : (s : Stored) (t : Ticket) (number ticket v : ℕ) (row : Option Row) (o : Option ℕ) → place_in s.places t.path ≡ o → ticket_at s.tickets number ≡ Some t → refusal s number ≡ None → length s.places ≤ s.limits.paths
    → length (with_commit s.places t.path ticket v row) ≤ s.limits.paths
length_by s t number ticket v row None at is allowed le =
    let room : nat_lt (length s.places) s.limits.paths ≡ true = allowed_room (nat_lt (length s.places) s.limits.paths) (sym (refusal_absent s number t is at) ∙ allowed) in
    let lt : length s.places < s.limits.paths = grind (arith, nat_tests) in
    let new = commit_new s.places t.path ticket v row at in
    let x : Place = record { path = t.path; stamp = ticket; rows = with_row_at [] v row } in
    rw new (omega (arith, length-append s.places (x ∷ [])))
length_by s t number ticket v row (Some i) at is allowed le =
    let f = place_found s.places t.path i at in
    let set = commit_at s.places t.path ticket v row i f.0 at f.1 in
    rw set (omega (arith, length-set s.places i (record { path = t.path; stamp = ticket; rows = with_row_at f.0.rows v row })))

-- a commit that is not refused keeps to the limit
pub length_commit : (s : Stored) (t : Ticket) (number ticket v : ℕ) (row : Option Row) → ticket_at s.tickets number ≡ Some t → refusal s number ≡ None → length s.places ≤ s.limits.paths
    → length (with_commit s.places t.path ticket v row) ≤ s.limits.paths
length_commit s t number ticket v row is allowed le = length_by s t number ticket v row (place_in s.places t.path) refl is allowed le

pub one_at_most : (row : Option Row) → one_if row ≤ 1
one_at_most None = omega arith
one_at_most (Some r) = omega arith
