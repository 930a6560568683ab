-- Pins that are searched, added and taken away.
use Rattle.std.proofs.Common.{◌≡◌, ℕ, zero, suc, ◌+◌, ◌<◌, ◌≤◌, Bool, true, false, List, [], ◌∷◌, length, get_or, insert, refl, sym, ap, subst, ◌∙◌, arith}
use Rattle.std.specs.Prelude.{Option, None, Some, ◌==◌, ◌&&◌, nat_lt, nat_le, slice_get, if◌then◌else◌}
use Rattle.std.specs.Option.{option_map_or}
use Rattle.std.specs.List.{list_any, remove, prefix_len, AllByRecursion}
use Rattle.std.specs.List.Sorted.{IsPartitionedBy, IsPartitionPoint}
use Rattle.std.proofs.Math.Numerals.{one-add}
use Rattle.std.proofs.lemmas.Bool.Decides.{nat_tests}
use Rattle.std.proofs.lemmas.List.Sums.{prefix_len_is}
use Rattle.std.proofs.lemmas.Bool.{false≢true}
use Rattle.md_world.proofs.Lookups.{by_test}
use Rattle.md_store.specs.declared.chain.KeptRow.{KeptRow}
use Rattle.md_store.specs.Chains.{sees, is_before_end}
use Rattle.md_store.specs.Pins.{Ascend, is_pinned, with_pin, without_pin, pins_of}

-- whether a pin is of a version before this one
abbrev pub is_below : ℕ → ℕ → Bool
is_below v pin = nat_lt pin v

-- how many pins are
abbrev pub below : List ℕ → ℕ → ℕ
below pins v = prefix_len (λ pin. nat_lt pin v) pins

least_at : (pin : ℕ) (pins : List ℕ) (j d : ℕ) → AllByRecursion (λ later. pin ≤ later) pins → j < length pins → pin ≤ get_or pins j d
least_at pin [] j d h lt = absurd (omega arith)
least_at pin (p ∷ pins) zero d h lt = h.0
least_at pin (p ∷ pins) (suc j) d h lt = least_at pin pins j d h.1 (omega arith)

lt_trans : (a b c : ℕ) → a ≤ b → nat_lt b c ≡ true → nat_lt a c ≡ true
lt_trans a b c le lt = grind (arith, nat_tests)

-- the pins of versions before this one come first
pub parted : (v : ℕ) (pins : List ℕ) → Ascend pins → IsPartitionedBy (is_below v) pins
parted v [] h i j d le lt e = absurd (omega arith)
parted v (p ∷ pins) h zero zero d le lt e = e
parted v (p ∷ pins) h zero (suc j) d le lt e = lt_trans p (get_or pins j d) v (least_at p pins j d h.0 (omega arith)) e
parted v (p ∷ pins) h (suc i) zero d le lt e = absurd (omega arith)
parted v (p ∷ pins) h (suc i) (suc j) d le lt e = parted v pins h.1 i j d (omega arith) (omega arith) e

-- where they end is how many they are
pub point_is : (v : ℕ) (pins : List ℕ) (n : ℕ) → n ≤ length pins → IsPartitionPoint (λ pin. is_below v pin ≡ true) (λ pin. is_below v pin ≡ false) pins n → n ≡ below pins v
point_is v [] n le point = omega arith
point_is v (p ∷ pins) n le point = sym (prefix_len_is (is_below v) (p ∷ pins) n p le (λ k lt. point.0 k p (omega arith) lt) (λ lt. point.1 n p (omega arith) lt))

-- a pin is put where its version's place is
pub inserted : (pins : List ℕ) (v : ℕ) → insert pins (below pins v) v ≡ with_pin pins v
inserted [] v = refl
inserted (p ∷ pins) v =
    by_test (nat_lt p v)
    (λ b. rw (b, one-add) (ap (λ rest. p ∷ rest) (inserted pins v)))
    (λ b. rw b refl)

below_not : (p v : ℕ) → nat_lt p v ≡ true → (p == v) ≡ false
below_not p v h = grind (arith, nat_tests)

never_later : (p v : ℕ) (pins : List ℕ) → v < p → AllByRecursion (λ later. p ≤ later) pins → is_pinned pins v ≡ false
never_later p v [] lt h = refl
never_later p v (q ∷ pins) lt h =
    let le = h.0 in
    let apart : (q == v) ≡ false = grind (arith, nat_tests) in
    rw apart (never_later p v pins lt h.1)

first_is : (p v : ℕ) (pins : List ℕ) → nat_lt p v ≡ false → AllByRecursion (λ later. p ≤ later) pins → is_pinned (p ∷ pins) v ≡ true → (p == v) ≡ true
first_is p v pins b h k =
    by_test (p == v)
    (λ e. e)
    (λ e. let lt : v < p = grind (arith, nat_tests) in absurd (false≢true (sym (never_later p v pins lt h) ∙ rw e at k)))

-- a pinned version has its first pin at its place
pub removed : (pins : List ℕ) (v : ℕ) → Ascend pins → is_pinned pins v ≡ true → remove pins (below pins v) ≡ without_pin pins v
removed [] v h k = cc
removed (p ∷ pins) v h k =
    by_test (nat_lt p v)
    (λ b. let apart = below_not p v b in rw (b, apart, one-add) (ap (λ rest. p ∷ rest) (removed pins v h.1 (rw apart at k))))
    (λ b. let same = first_is p v pins b h.0 k in rw (b, same) refl)

-- and that place is within the pins
pub pinned_within : (pins : List ℕ) (v : ℕ) → Ascend pins → is_pinned pins v ≡ true → below pins v < length pins
pinned_within [] v h k = cc
pinned_within (p ∷ pins) v h k =
    by_test (nat_lt p v)
    (λ b. let rest = pinned_within pins v h.1 (rw (below_not p v b) at k) in rw (b, one-add) (omega arith))
    (λ b. rw b (omega arith))

all_with : (p v : ℕ) (pins : List ℕ) → p ≤ v → AllByRecursion (λ later. p ≤ later) pins → AllByRecursion (λ later. p ≤ later) (with_pin pins v)
all_with p v [] le h = (le, tt)
all_with p v (q ∷ pins) le h =
    by_test (nat_lt q v)
    (λ b. rw b (h.0, all_with p v pins le h.1))
    (λ b. rw b (le, h))

all_more : (p v : ℕ) (pins : List ℕ) → v ≤ p → AllByRecursion (λ later. p ≤ later) pins → AllByRecursion (λ later. v ≤ later) pins
all_more p v [] le h = tt
all_more p v (q ∷ pins) le h = let first = h.0 in (omega arith, all_more p v pins le h.1)

pub ascend_with : (v : ℕ) (pins : List ℕ) → Ascend pins → Ascend (with_pin pins v)
ascend_with v [] h = (tt, tt)
ascend_with v (p ∷ pins) h =
    by_test (nat_lt p v)
    (λ b. let le : p ≤ v = grind (arith, nat_tests) in rw b (all_with p v pins le h.0, ascend_with v pins h.1))
    (λ b. let le : v ≤ p = grind (arith, nat_tests) in rw b ((le, all_more p v pins le h.0), h))

-- the version is pinned then
pub pinned_with : (v : ℕ) (pins : List ℕ) → is_pinned (with_pin pins v) v ≡ true
pinned_with v [] = let same : (v == v) ≡ true = grind (arith, nat_tests) in rw same refl
pinned_with v (p ∷ pins) =
    by_test (nat_lt p v)
    (λ b. rw (b, below_not p v b) (pinned_with v pins))
    (λ b. let same : (v == v) ≡ true = grind (arith, nat_tests) in rw (b, same) refl)

all_without : (p v : ℕ) (pins : List ℕ) → AllByRecursion (λ later. p ≤ later) pins → AllByRecursion (λ later. p ≤ later) (without_pin pins v)
all_without p v [] h = tt
all_without p v (q ∷ pins) h =
    by_test (q == v)
    (λ b. rw b h.1)
    (λ b. rw b (h.0, all_without p v pins h.1))

pub ascend_without : (v : ℕ) (pins : List ℕ) → Ascend pins → Ascend (without_pin pins v)
ascend_without v [] h = tt
ascend_without v (p ∷ pins) h =
    by_test (p == v)
    (λ b. rw b h.1)
    (λ b. rw b (all_without p v pins h.0, ascend_without v pins h.1))

early_unseen : (x : KeptRow) (pin : ℕ) → nat_lt pin x.from ≡ true → sees pin x ≡ false
early_unseen x pin h = let e : nat_le x.from pin ≡ false = grind (arith, nat_tests) in ap (λ b. b && is_before_end pin x.until) e

ended_for : (pin later : ℕ) (o : Option ℕ) → pin ≤ later → is_before_end pin o ≡ false → is_before_end later o ≡ false
ended_for pin later None le h = h
ended_for pin later (Some end) le h = grind (arith, nat_tests)

late_unseen : (x : KeptRow) (pin later : ℕ) → nat_lt pin x.from ≡ false → sees pin x ≡ false → pin ≤ later → sees later x ≡ false
late_unseen x pin later b h le =
    let made : nat_le x.from pin ≡ true = grind (arith, nat_tests) in
    let after : nat_le x.from later ≡ true = grind (arith, nat_tests) in
    ap (λ b. b && is_before_end later x.until) after ∙ ended_for pin later x.until le (sym (ap (λ b. b && is_before_end pin x.until) made) ∙ h)

late_none : (x : KeptRow) (pin : ℕ) (pins : List ℕ) → nat_lt pin x.from ≡ false → sees pin x ≡ false → AllByRecursion (λ later. pin ≤ later) pins → list_any (λ v. sees v x) pins ≡ false
late_none x pin [] b h k = refl
late_none x pin (p ∷ pins) b h k = rw (late_unseen x pin p b h k.0) (late_none x pin pins b h k.1)

-- where any pinned version sees a row, the first from the row's own version on does
pub any_at : (x : KeptRow) (pins : List ℕ) → Ascend pins → option_map_or (λ pin. sees pin x) (slice_get pins (below pins x.from)) false ≡ list_any (λ v. sees v x) pins
any_at x [] h = refl
any_at x (p ∷ pins) h =
    by_test (nat_lt p x.from)
    (λ b. rw (b, one-add, early_unseen x p b) (any_at x pins h.1))
    (λ b. rw b (by_test (sees p x) (λ k. rw k refl) (λ k. rw k (sym (late_none x p pins b k h.0)))))

-- one pin more counts for its version
pub pins_more : (pins : List ℕ) (w v : ℕ) → pins_of (with_pin pins w) v ≡ pins_of pins v + (if w == v then 1 else 0)
pins_more [] w v = omega arith
pins_more (pin ∷ pins) w v =
    let rest = pins_more pins w v in
    by_test (nat_lt pin w)
    (λ b. rw b (omega arith))
    (λ b. rw b (omega arith))

-- and one less
pub pins_less : (pins : List ℕ) (w v : ℕ) → is_pinned pins w ≡ true → pins_of (without_pin pins w) v + (if w == v then 1 else 0) ≡ pins_of pins v
pins_less [] w v h = cc
pins_less (pin ∷ pins) w v h =
    by_test (pin == w)
    (λ b. let same : pin ≡ w = grind (arith, nat_tests) in rw b (subst (λ (k : ℕ). pins_of pins v + (if w == v then 1 else 0) ≡ (if k == v then 1 else 0) + pins_of pins v) (sym same) (omega arith)))
    (λ b. let rest = pins_less pins w v (rw b at h) in rw b (omega arith))

-- a version is pinned where it is pinned at least once
pub pinned_once : (pins : List ℕ) (v : ℕ) → is_pinned pins v ≡ true → 0 < pins_of pins v
pinned_once [] v h = cc
pinned_once (pin ∷ pins) v h =
    by_test (pin == v)
    (λ b. rw b (omega arith))
    (λ b. let rest = pinned_once pins v (rw b at h) in omega arith)

pub once_pinned : (pins : List ℕ) (v : ℕ) → 0 < pins_of pins v → is_pinned pins v ≡ true
once_pinned [] v h = absurd (omega arith)
once_pinned (pin ∷ pins) v h =
    by_test (pin == v)
    (λ b. rw b refl)
    (λ b. let left : 0 < pins_of pins v = omega (arith, rw b at h) in rw b (once_pinned pins v left))
