-- The row that a version sees, by where the rows end that were made by then.
use Rattle.std.proofs.Common.{◌≡◌, ℕ, zero, suc, ◌+◌, ◌<◌, ◌≤◌, Bool, true, false, ◌-◌, List, [], ◌∷◌, length, get_or, refl, sym, ap, subst, ◌∙◌, arith}
use Rattle.std.specs.Prelude.{Option, None, Some, ◌&&◌, nat_le, slice_get, find, if◌then◌else◌}
use Rattle.std.specs.List.{prefix_len, AllByRecursion}
use Rattle.std.specs.List.Sorted.{IsPartitionedBy, IsPartitionPoint}
use Rattle.std.proofs.lemmas.Bool.Decides.{nat_tests}
use Rattle.std.proofs.lemmas.Option.{slice_get-get_or}
use Rattle.std.proofs.lemmas.List.Sums.{prefix_len_is}
use Rattle.md_world.proofs.Lookups.{by_test, some_inj}
use Rattle.md_store.specs.declared.chain.KeptRow.{KeptRow}
use Rattle.md_store.specs.Chains.{sees, is_before_end, EndsBy, Precedes, IsOrdered}

-- whether a row was made by a version
abbrev pub is_made : ℕ → KeptRow → Bool
is_made v x = nat_le x.from v

-- how many rows were
abbrev pub made : List KeptRow → ℕ → ℕ
made chain v = prefix_len (λ x. nat_le x.from v) chain

made_at : (l : KeptRow) (v : ℕ) (chain : List KeptRow) (j : ℕ) (d : KeptRow) → AllByRecursion (Precedes l) chain → j < length chain → is_made v (get_or chain j d) ≡ true → is_made v l ≡ true
made_at l v [] j d h lt e = absurd (omega arith)
made_at l v (x ∷ chain) zero d h lt e = let le = h.0.from in grind (arith, nat_tests)
made_at l v (x ∷ chain) (suc j) d h lt e = made_at l v chain j d h.1 (omega arith) e

-- the rows that were made by a version come first
pub parted : (v : ℕ) (chain : List KeptRow) → IsOrdered chain → IsPartitionedBy (is_made v) chain
parted v [] h i j d le lt e = absurd (omega arith)
parted v (x ∷ chain) h zero zero d le lt e = e
parted v (x ∷ chain) h zero (suc j) d le lt e = made_at x v chain j d h.0 (omega arith) e
parted v (x ∷ chain) h (suc i) zero d le lt e = absurd (omega arith)
parted v (x ∷ chain) h (suc i) (suc j) d le lt e = parted v chain h.1 i j d (omega arith) (omega arith) e

-- where they end is how many they are
pub point_is : (v : ℕ) (chain : List KeptRow) (n : ℕ) → n ≤ length chain → IsPartitionPoint (λ x. is_made v x ≡ true) (λ x. is_made v x ≡ false) chain n → n ≡ made chain v
point_is v [] n le point = omega arith
point_is v (x ∷ chain) n le point = sym (prefix_len_is (is_made v) (x ∷ chain) n x le (λ k lt. point.0 k x (omega arith) lt) (λ lt. point.1 n x (omega arith) lt))

unmade : (v : ℕ) (x : KeptRow) → is_made v x ≡ false → sees v x ≡ false
unmade v x h = ap (λ b. b && is_before_end v x.until) h

later_none : (v : ℕ) (l : KeptRow) (chain : List KeptRow) → is_made v l ≡ false → AllByRecursion (Precedes l) chain → find (sees v) chain ≡ None
later_none v l [] h k = refl
later_none v l (x ∷ chain) h k =
    let le = k.0.from in
    let late : is_made v x ≡ false = grind (arith, nat_tests) in
    rw (unmade v x late) (later_none v l chain h k.1)

-- where none was, a version sees none
pub seen_none : (v : ℕ) (chain : List KeptRow) → IsOrdered chain → made chain v ≡ 0 → find (sees v) chain ≡ None
seen_none v [] h e = refl
seen_none v (x ∷ chain) h e =
    by_test (is_made v x)
    (λ b. let k : 1 + made chain v ≡ 0 = rw b at e in absurd (omega arith))
    (λ b. rw (unmade v x b) (later_none v x chain b h.0))

precedes_at : (l : KeptRow) (chain : List KeptRow) (j : ℕ) (x : KeptRow) → AllByRecursion (Precedes l) chain → slice_get chain j ≡ Some x → Precedes l x
precedes_at l [] j x h e = cc
precedes_at l (y ∷ chain) zero x h e = subst (Precedes l) (some_inj y x e) h.0
precedes_at l (y ∷ chain) (suc j) x h e = precedes_at l chain j x h.1 e

is_made_at : (v : ℕ) (chain : List KeptRow) (j : ℕ) (x : KeptRow) → j < made chain v → slice_get chain j ≡ Some x → is_made v x ≡ true
is_made_at v [] j x lt e = cc
is_made_at v (y ∷ chain) zero x lt e =
    by_test (is_made v y)
    (λ b. ap (is_made v) (sym (some_inj y x e)) ∙ b)
    (λ b. let k : 0 < 0 = rw b at lt in absurd (omega arith))
is_made_at v (y ∷ chain) (suc j) x lt e =
    by_test (is_made v y)
    (λ b. let k : suc j < 1 + made chain v = rw b at lt in is_made_at v chain j x (omega arith) e)
    (λ b. let k : suc j < 0 = rw b at lt in absurd (omega arith))

ended : (v : ℕ) (from : ℕ) (o : Option ℕ) → nat_le from v ≡ true → EndsBy from o → is_before_end v o ≡ false
ended v from None h e = absurd e
ended v from (Some end) h e = grind (arith, nat_tests)

and_no : (b : Bool) → b && false ≡ false
and_no true = refl
and_no false = refl

-- else it sees the last that was made by then, if any
pub seen_last : (v : ℕ) (chain : List KeptRow) (k : ℕ) (x : KeptRow) → IsOrdered chain → made chain v ≡ suc k → slice_get chain k ≡ Some x → find (sees v) chain ≡ (if sees v x then Some x else None)
seen_last v [] k x h e at = cc
seen_last v (l ∷ chain) zero x h e at =
    by_test (is_made v l)
    (λ b.
    let rest : 1 + made chain v ≡ suc zero = rw b at e in
    let none : find (sees v) chain ≡ None = seen_none v chain h.1 (omega arith) in
    rw none (ap (λ (y : KeptRow). if sees v y then Some y else None) (some_inj l x at)))
    (λ b. let k : 0 ≡ suc zero = rw b at e in absurd (omega arith))
seen_last v (l ∷ chain) (suc k) x h e at =
    by_test (is_made v l)
    (λ b.
    let more : 1 + made chain v ≡ suc (suc k) = rw b at e in
    let rest : made chain v ≡ suc k = omega arith in
    let by_then : is_made v x ≡ true = is_made_at v chain k x (omega arith) at in
    let past : is_before_end v l.until ≡ false = ended v x.from l.until by_then (precedes_at l chain k x h.0 at).until in
    let unseen : sees v l ≡ false = ap (λ b. nat_le l.from v && b) past ∙ and_no (nat_le l.from v) in
    rw unseen (seen_last v chain k x h.1 rest at))
    (λ b. let none : 0 ≡ suc (suc k) = rw b at e in absurd (omega arith))

-- the same, as the last is read
pub seen_at : (v : ℕ) (chain : List KeptRow) (n : ℕ) (x : KeptRow) → IsOrdered chain → n ≡ made chain v → (n ≡ 0 → ⊥) → n ≤ length chain → x ≡ get_or chain (n - 1) x → find (sees v) chain ≡ (if sees v x then Some x else None)
seen_at v chain zero x h e some le is = absurd (some refl)
seen_at v chain (suc k) x h e some le is =
    let before : suc k - 1 ≡ k = omega arith in
    let there : slice_get chain k ≡ Some x = slice_get-get_or chain k x (omega arith) ∙ ap Some (sym (rw before at is)) in
    seen_last v chain k x h (sym e) there
