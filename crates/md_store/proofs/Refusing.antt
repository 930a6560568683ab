-- Why a commit is refused, by the place of its path.
use Rattle.std.proofs.Common.{◌≡◌, ℕ, zero, suc, List, [], ◌∷◌, refl, ap, ◌∙◌, length}
use Rattle.std.specs.Prelude.{Option, None, Some, nat_lt, slice_get, if◌then◌else◌}
use Rattle.md_value.specs.Values.{PathBytes, is_same}
use Rattle.md_world.specs.Tickets.{Ticket, ticket_at, stamp_at}
use Rattle.md_world.proofs.Lookups.{by_test}
use Rattle.md_store.specs.declared.ready.ReadyEnd.TheVariants as end
use Rattle.md_store.specs.Places.{Place, place_in, next_place, stamps_of}
use Rattle.md_store.specs.Stores.{Stored, refusal, refusal_of, refusal_by}

next_none : (o : Option ℕ) → next_place o ≡ None → o ≡ None
next_none None h = refl
next_none (Some i) h = cc

next_some : (o : Option ℕ) (i : ℕ) → next_place o ≡ Some (suc i) → o ≡ Some i
next_some None i h = cc
next_some (Some j) i h = cc

next_not_zero : (o : Option ℕ) → next_place o ≡ Some zero → ⊥
next_not_zero None h = cc
next_not_zero (Some j) h = cc

zero_none : Some zero ≡ None → ⊥
zero_none h = cc

zero_not_suc : (i : ℕ) → Some zero ≡ Some (suc i) → ⊥
zero_not_suc i h = cc

-- the stamp of a path that has a place
pub stamp_there : (places : List Place) (path : PathBytes) (i : ℕ) (x : Place) → place_in places path ≡ Some i → slice_get places i ≡ Some x → stamp_at (stamps_of places) path ≡ Some (record { path = x.path; ticket = x.stamp })
stamp_there [] path i x h e = cc
stamp_there (y ∷ places) path zero x h e =
    let same : y ≡ x = cc in
    by_test (is_same y.path path)
    (λ b. rw b (ap (λ (z : Place). Some (record { path = z.path; ticket = z.stamp })) same))
    (λ b. absurd (next_not_zero (place_in places path) (rw b at h)))
stamp_there (y ∷ places) path (suc i) x h e =
    by_test (is_same y.path path)
    (λ b. absurd (zero_not_suc i (rw b at h)))
    (λ b. rw b (stamp_there places path i x (next_some (place_in places path) i (rw b at h)) e))

-- a path without a place has no stamp
pub stamp_absent : (places : List Place) (path : PathBytes) → place_in places path ≡ None → stamp_at (stamps_of places) path ≡ None
stamp_absent [] path h = refl
stamp_absent (y ∷ places) path h =
    by_test (is_same y.path path)
    (λ b. absurd (zero_none (rw b at h)))
    (λ b. rw b (stamp_absent places path (next_none (place_in places path) (rw b at h))))

pub refusal_there : (s : Stored) (number : ℕ) (t : Ticket) (i : ℕ) (x : Place) → ticket_at s.tickets number ≡ Some t → place_in s.places t.path ≡ Some i → slice_get s.places i ≡ Some x
    → refusal s number ≡ (if nat_lt number x.stamp then Some (end.Superseded x.stamp) else None)
refusal_there s number t i x is at there = ap (refusal_of s number) is ∙ ap (refusal_by s number) (stamp_there s.places t.path i x at there)

pub refusal_absent : (s : Stored) (number : ℕ) (t : Ticket) → ticket_at s.tickets number ≡ Some t → place_in s.places t.path ≡ None
    → refusal s number ≡ (if nat_lt (length s.places) s.limits.paths then None else Some end.StoreFull)
refusal_absent s number t is at = ap (refusal_of s number) is ∙ ap (refusal_by s number) (stamp_absent s.places t.path at)
