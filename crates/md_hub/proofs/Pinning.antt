-- Each version is pinned as often as a live query speaks of it.
use Rattle.std.proofs.Common.{◌≡◌, ◌⊎◌, inl, inr, ℕ, zero, suc, ◌+◌, ◌<◌, ◌≤◌, Bool, true, false, cond, not, List, [], ◌∷◌, ◌++◌, filter, refl, sym, ap, ◌∙◌, subst, arith}
use Rattle.std.specs.Prelude.{None, Some, ◌==◌, ◌||◌, slice_get, slice_set, if◌then◌else◌}
use Rattle.std.specs.List.{AllByRecursion, IsDistinct}
use Rattle.std.proofs.lemmas.Bool.Decides.{nat_tests}
use Rattle.std.proofs.lemmas.Map.Keys.{IsDistinct-head, IsDistinct-tail}
use Rattle.md_world.proofs.Lookups.{by_test, some_inj}
use Rattle.md_machine.specs.Laws.{same_key}
use Rattle.md_machine.specs.States.{Query, is_query, query_at, without_query}
use Rattle.md_machine.proofs.Queries.{key_of}
use Rattle.md_store.specs.Pins.{is_pinned, with_pin, without_pin, pins_of}
use Rattle.md_store.specs.Stores.{Stored, is_shown}
use Rattle.md_store.proofs.Pinning.{pins_more, pins_less, once_pinned}
use Rattle.md_hub.specs.Pinned.{bases_of, ArePinned}

-- one if both are the same version
abbrev one_at : ℕ → ℕ → ℕ
one_at base version = if base == version then 1 else 0

own : (v : ℕ) → one_at v v ≡ 1
own v = let same : (v == v) ≡ true = grind (arith, nat_tests) in rw same refl

bases_at : (qs : List Query) (i : ℕ) (q : Query) → slice_get qs i ≡ Some q → 0 < bases_of qs q.base
bases_at [] i q h = cc
bases_at (x ∷ qs) zero q h = let one = own q.base in rw (ap (λ (y : Query). y.base) (some_inj x q h)) (omega arith)
bases_at (x ∷ qs) (suc i) q h = let rest = bases_at qs i q h in omega arith

bases_found : (qs : List Query) (c n : ℕ) (q : Query) → query_at qs c n ≡ Some q → 0 < bases_of qs q.base
bases_found [] c n q h = cc
bases_found (x ∷ qs) c n q h =
    by_test (is_query c n x)
    (λ e. let one = own q.base in rw (ap (λ (y : Query). y.base) (some_inj x q (rw e at h))) (omega arith))
    (λ e. let rest = bases_found qs c n q (rw e at h) in omega arith)

bases_more : (qs : List Query) (q : Query) (v : ℕ) → bases_of (qs ++ q ∷ []) v ≡ bases_of qs v + one_at q.base v
bases_more [] q v = omega arith
bases_more (x ∷ qs) q v = let rest = bases_more qs q v in omega arith

bases_set : (qs : List Query) (i : ℕ) (q new : Query) (v : ℕ) → slice_get qs i ≡ Some q → bases_of (slice_set qs i new) v + one_at q.base v ≡ bases_of qs v + one_at new.base v
bases_set [] i q new v h = cc
bases_set (x ∷ qs) zero q new v h = rw (ap (λ (y : Query). y.base) (some_inj x q h)) (omega arith)
bases_set (x ∷ qs) (suc i) q new v h = let rest = bases_set qs i q new v h in omega arith

-- no other query has its client and number
all_stay : (c n : ℕ) (q : Query) (qs : List Query) → is_query c n q ≡ true → AllByRecursion (λ x. same_key q x ≡ false) qs → without_query qs c n ≡ qs
all_stay c n q [] is h = refl
all_stay c n q (x ∷ qs) is h =
    let key = key_of c n q is in
    let other : is_query c n x ≡ false = ap (λ (d : ℕ). is_query d n x) (sym key.0) ∙ ap (λ (m : ℕ). is_query q.client m x) (sym key.1) ∙ h.0 in
    rw other (ap (λ rest. x ∷ rest) (all_stay c n q qs is h.1))

bases_out : (qs : List Query) (c n : ℕ) (q : Query) (v : ℕ) → IsDistinct same_key qs → query_at qs c n ≡ Some q → bases_of (without_query qs c n) v + one_at q.base v ≡ bases_of qs v
bases_out [] c n q v keys h = cc
bases_out (x ∷ qs) c n q v keys h =
    by_test (is_query c n x)
    (λ e.
    let base : x.base ≡ q.base = ap (λ (y : Query). y.base) (some_inj x q (rw e at h)) in
    let rest : without_query qs c n ≡ qs = all_stay c n x qs e (IsDistinct-head same_key x qs keys) in
    rw (e, rest, base) (omega arith))
    (λ e. let rest = bases_out qs c n q v (IsDistinct-tail same_key x qs keys) (rw e at h) in rw e (omega arith))

module _ (pins : List ℕ) (qs : List Query) (all : ArePinned pins qs) where
  -- the base of a query is pinned
  pub pinned_at : (i : ℕ) (q : Query) → slice_get qs i ≡ Some q → is_pinned pins q.base ≡ true
  pinned_at i q h = let some = bases_at qs i q h in let each = all q.base in once_pinned pins q.base (omega arith)

  pub pinned_found : (c n : ℕ) (q : Query) → query_at qs c n ≡ Some q → is_pinned pins q.base ≡ true
  pinned_found c n q h = let some = bases_found qs c n q h in let each = all q.base in once_pinned pins q.base (omega arith)

  -- with a new query of a version that is pinned once more
  pub pinned_more : (q : Query) → ArePinned (with_pin pins q.base) (qs ++ q ∷ [])
  pinned_more q v = let each = all v in let pin = pins_more pins q.base v in let base = bases_more qs q v in omega arith

  -- with a query in place of another, whose pin is moved
  pub pinned_set : (i : ℕ) (q new : Query) → slice_get qs i ≡ Some q → ArePinned (with_pin (without_pin pins q.base) new.base) (slice_set qs i new)
  pinned_set i q new h v =
      let each = all v in
      let less = pins_less pins q.base v (pinned_at i q h) in
      let more = pins_more (without_pin pins q.base) new.base v in
      let base = bases_set qs i q new v h in
      omega arith

  -- without a query, whose pin is taken away
  pub pinned_out : (c n : ℕ) (q : Query) → IsDistinct same_key qs → query_at qs c n ≡ Some q → ArePinned (without_pin pins q.base) (without_query qs c n)
  pinned_out c n q keys h v =
      let each = all v in
      let less = pins_less pins q.base v (pinned_found c n q h) in
      let base = bases_out qs c n q v keys h in
      omega arith

pinned_shown : (s : Stored) (v : ℕ) → is_pinned s.pins v ≡ true → is_shown s v ≡ true
pinned_shown s v h = by_test (v == s.version) (λ e. rw e refl) (λ e. rw e h)

each_shown : (s : Stored) (qs : List Query) → ((v : ℕ) → 0 < bases_of qs v → 0 < pins_of s.pins v) → AllByRecursion (λ (q : Query). is_shown s q.base ≡ true) qs
each_shown s [] f = tt
each_shown s (q ∷ qs) f =
    (pinned_shown s q.base (once_pinned s.pins q.base (f q.base (omega (arith, own q.base)))), each_shown s qs (λ v lt. f v (omega arith)))

module _ (s : Stored) (qs : List Query) (all : ArePinned s.pins qs) where
  -- the base of each query can be read
  pub bases_shown : AllByRecursion (λ (q : Query). is_shown s q.base ≡ true) qs
  bases_shown = each_shown s qs (λ v lt. let each = all v in omega arith)

  pub shown_at : (i : ℕ) (q : Query) → slice_get qs i ≡ Some q → is_shown s q.base ≡ true
  shown_at i q h = pinned_shown s q.base (pinned_at s.pins qs all i q h)

  pub shown_found : (c n : ℕ) (q : Query) → query_at qs c n ≡ Some q → is_shown s q.base ≡ true
  shown_found c n q h = pinned_shown s q.base (pinned_found s.pins qs all c n q h)
