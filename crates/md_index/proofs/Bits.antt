-- Places as bits of words.
use Rattle.std.proofs.Common.{◌≡◌, ℕ, ◌+◌, ◌*◌, ◌/◌, ◌%◌, ◌<◌, ◌≤◌, ◌^◌, Bool, true, false, cond, ◌&&◌, ◌||◌, List, [], ◌∷◌, ◌++◌, refl, sym, ◌∙◌, ap, subst, eqb, leb, ltb, arith}
use Rattle.std.specs.Prelude.{Option, Some, None, is_some}
use Rattle.std.specs.Int.{w32, bit_not}
use Rattle.std.specs.Int.Bits.{bit_and, bit_or}
use Rattle.std.specs.Ordering.{nat_cmp, is_eq}
use Rattle.std.specs.List.{AllByRecursion}
use Rattle.std.specs.Map.{lookup}
use Rattle.std.specs.BTreeMap.{BTreeMap, get, is_at, IsOrdered}
use Rattle.std.proofs.lemmas.Bool.{eqb-true, eqb-false, eq-eqb, lt-ltb, le-ltb, leb-true, leb-false, le-leb, lt-leb, false≢true, or_left, or_right}
use Rattle.std.proofs.lemmas.Cmp.{nat_cmp_total}
use Rattle.std.proofs.lemmas.List.Elements.{recursion_from_All}
use Rattle.std.proofs.lemmas.List.Folds.{list_any-append}
use Rattle.std.proofs.lemmas.Map.Lookups.{exact_unsigned}
use Rattle.std.proofs.lemmas.Map.Views.{All-found}
use Rattle.std.proofs.lemmas.Nat.Bits.{bit_at_set_same, bit_at_set_other, bit_at_clear_same, bit_at_clear_other, bit_at-zero}
use Rattle.md_world.proofs.Lookups.{by_test}
use Rattle.md_index.specs.States.{is_on, written, has_bit, block_state, blocks_state}
use Rattle.md_index.specs.Indexed.{lists, in_block, from_bit, in_blocks}
use Rattle.md_index.proofs.Bools.{one_bool, and_first, and_second, or_else, both_true, or_nothing}
use Rattle.md_index.proofs.Exact.{equal}

-- ---- a bit

-- a word with a bit set or cleared
pub set_one : (word bit i : ℕ) → bit < 32 → i < 32 → has_bit (bit_or word (1 * 2 ^ bit % 2 ^ 32)) i ≡ cond (eqb bit i) true (has_bit word i)
set_one word bit i lt lti =
    by_test (eqb bit i)
    (λ e.
    let same : bit ≡ i = eqb-true bit i e in
    subst (λ j. has_bit (bit_or word (1 * 2 ^ bit % 2 ^ 32)) j ≡ cond (eqb bit j) true (has_bit word j)) same
    (rw (bit_at_set_same w32 word bit lt, eq-eqb bit bit refl) refl))
    (λ e. rw (bit_at_set_other w32 word bit lt i (λ s. eqb-false bit i e (sym s)), e) refl)

pub clear_one : (word bit i : ℕ) → bit < 32 → i < 32 → has_bit (bit_and word (bit_not w32 (1 * 2 ^ bit % 2 ^ 32))) i ≡ cond (eqb bit i) false (has_bit word i)
clear_one word bit i lt lti =
    by_test (eqb bit i)
    (λ e.
    let same : bit ≡ i = eqb-true bit i e in
    subst (λ j. has_bit (bit_and word (bit_not w32 (1 * 2 ^ bit % 2 ^ 32))) j ≡ cond (eqb bit j) false (has_bit word j)) same
    (rw (bit_at_clear_same w32 word bit lt, eq-eqb bit bit refl) refl))
    (λ e. rw (bit_at_clear_other w32 word bit lt i lti (λ s. eqb-false bit i e (sym s)), e) refl)

-- ---- blocks

pub exact_block : (a b : ℕ) → is_eq (nat_cmp a b) ≡ true → a ≡ b
exact_block a b h = exact_unsigned a b (equal (nat_cmp a b) h)

-- a block without a place is one of no place counted
pub zero_off : (place : ℕ) → is_on (block_state (Some 0) place) ≡ false
zero_off place =
    by_test (ltb place (2 ^ 32))
    (λ e. rw (e, bit_at-zero (place % 32)) refl)
    (λ e. rw e refl)

pub has_room : (word place : ℕ) → place < 2 ^ 32 → is_some (block_state (Some word) place) ≡ true
has_room word place lt = rw (lt-ltb place (2 ^ 32) lt) refl

-- the state of a word in which one bit was written
pub wrote : (word new place p : ℕ) (flag : Bool) → ((i : ℕ) → i < 32 → has_bit new i ≡ cond (eqb (place % 32) i) flag (has_bit word i))
    → eqb (place / 32) (p / 32) ≡ true → block_state (Some new) p ≡ written (eqb place p) flag (block_state (Some word) p)
wrote word new place p flag bits block =
    let same : place / 32 ≡ p / 32 = eqb-true (place / 32) (p / 32) block in
    let within : p % 32 < 32 = omega arith in
    let one : eqb (place % 32) (p % 32) ≡ eqb place p =
    one_bool _ _
    (λ h. let e : place % 32 ≡ p % 32 = eqb-true (place % 32) (p % 32) h in eq-eqb place p (omega arith))
    (λ h. let e : place ≡ p = eqb-true place p h in eq-eqb (place % 32) (p % 32) (ap (λ x. x % 32) e)) in
    by_test (ltb p (2 ^ 32))
    (λ e. rw (e, bits (p % 32) within, one) refl)
    (λ e. rw e refl)

pub elsewhere : (o : Option ℕ) (place p : ℕ) (flag : Bool) → eqb place p ≡ false → block_state o p ≡ written (eqb place p) flag (block_state o p)
elsewhere None place p flag e = refl
elsewhere (Some word) place p flag e =
    by_test (ltb p (2 ^ 32))
    (λ k. rw (k, e) refl)
    (λ k. rw k refl)

-- ---- the places of a block, a bit after the other

module _ (block word i p : ℕ) (low : block < 2 ^ 27) (lt : i < 32) where
  at_block : has_bit word i ≡ true → p ≡ block * 32 + i → in_block (block, word) p ≡ true
  at_block bit e =
      let here : p / 32 ≡ block = omega arith in
      let place : p % 32 ≡ i = omega arith in
      let within : p < 2 ^ 32 = omega arith in
      both_true (eqb (p / 32) block) (is_on (block_state (Some word) p)) (eq-eqb (p / 32) block here) (rw (lt-ltb p (2 ^ 32) within) (ap (has_bit word) place ∙ bit))

  bit_there : in_block (block, word) p ≡ true → has_bit word (p % 32) ≡ true
  bit_there h =
      let on = and_second (eqb (p / 32) block) (is_on (block_state (Some word) p)) h in
      by_test (ltb p (2 ^ 32))
      (λ e. subst (λ b. is_on (cond b (Some (has_bit word (p % 32))) None) ≡ true) e on)
      (λ e. absurd (false≢true (subst (λ b. is_on (cond b (Some (has_bit word (p % 32))) None) ≡ true) e on)))

  block_there : in_block (block, word) p ≡ true → p / 32 ≡ block
  block_there h = eqb-true (p / 32) block (and_first (eqb (p / 32) block) (is_on (block_state (Some word) p)) h)

  -- a bit that is not at the place's own leaves what is from it on
  not_at : (in_block (block, word) p ≡ true → p % 32 ≡ i → ⊥) → from_bit (i + 1) (block, word) p ≡ from_bit i (block, word) p
  not_at apart =
      one_bool _ _
      (λ h.
      let there = and_second (leb (i + 1) (p % 32)) (in_block (block, word) p) h in
      let more : i + 1 ≤ p % 32 = leb-true (i + 1) (p % 32) (and_first (leb (i + 1) (p % 32)) (in_block (block, word) p) h) in
      both_true (leb i (p % 32)) (in_block (block, word) p) (le-leb i (p % 32) (omega arith)) there)
      (λ h.
      let there = and_second (leb i (p % 32)) (in_block (block, word) p) h in
      let from : i ≤ p % 32 = leb-true i (p % 32) (and_first (leb i (p % 32)) (in_block (block, word) p) h) in
      both_true (leb (i + 1) (p % 32)) (in_block (block, word) p) (by_test (leb (i + 1) (p % 32)) (λ e. e) (λ e. let less : p % 32 < i + 1 = leb-false (i + 1) (p % 32) e in absurd (apart there (omega arith)))) there)

  pub bit_passed : has_bit word i ≡ false → from_bit (i + 1) (block, word) p ≡ from_bit i (block, word) p
  bit_passed off = not_at (λ there e. false≢true (sym (sym (bit_there there) ∙ ap (has_bit word) e ∙ off)))

  pub bit_pushed : has_bit word i ≡ true → eqb p (block * 32 + i) || from_bit (i + 1) (block, word) p ≡ from_bit i (block, word) p
  bit_pushed on =
      by_test (eqb p (block * 32 + i))
      (λ e.
      let at : p ≡ block * 32 + i = eqb-true p (block * 32 + i) e in
      let place : i ≤ p % 32 = omega arith in
      rw e (sym (both_true (leb i (p % 32)) (in_block (block, word) p) (le-leb i (p % 32) place) (at_block on at))))
      (λ e.
      rw e (not_at (λ there same.
      let here : p / 32 ≡ block = block_there there in
      eqb-false p (block * 32 + i) e (omega arith))))

-- what is there after a bit, with those that are left
pub bits_more : (xs : List ℕ) (block word i p : ℕ) → block < 2 ^ 27 → i < 32 → has_bit word i ≡ true
    → lists (xs ++ (block * 32 + i) ∷ []) p || from_bit (i + 1) (block, word) p ≡ lists xs p || from_bit i (block, word) p
bits_more xs block word i p low lt on =
    ap (λ b. b || from_bit (i + 1) (block, word) p) (list_any-append (eqb p) xs ((block * 32 + i) ∷ [])) ∙ regroup (lists xs p) (eqb p (block * 32 + i)) (from_bit (i + 1) (block, word) p)
    ∙ ap (λ b. lists xs p || b) (bit_pushed block word i p low lt on)
  where
    regroup : (a b c : Bool) → (a || (b || false)) || c ≡ a || (b || c)
    regroup true b c = refl
    regroup false true c = refl
    regroup false false c = refl

pub bits_first : (block word p : ℕ) → from_bit 0 (block, word) p ≡ in_block (block, word) p
bits_first block word p = ap (λ b. b && in_block (block, word) p) (le-leb 0 (p % 32) (omega arith))

pub bits_last : (xs : List ℕ) (block word p : ℕ) → lists xs p ≡ lists xs p || from_bit 32 (block, word) p
bits_last xs block word p =
    let within : p % 32 < 32 = omega arith in
    sym (ap (λ b. lists xs p || (b && in_block (block, word) p)) (lt-leb 32 (p % 32) within) ∙ or_nothing (lists xs p))

-- a block that is out of range has no place
pub none_high : (block word p : ℕ) → 2 ^ 27 ≤ block → in_block (block, word) p ≡ false
none_high block word p high =
    by_test (eqb (p / 32) block)
    (λ e.
    let here : p / 32 ≡ block = eqb-true (p / 32) block e in
    let beyond : ltb p (2 ^ 32) ≡ false = le-ltb p (2 ^ 32) (omega arith) in
    rw (e, beyond) refl)
    (λ e. rw e refl)

-- ---- all blocks

blocks_on : (m : BTreeMap ℕ ℕ) (es : List (ℕ × ℕ)) → AllByRecursion (λ (e : ℕ × ℕ). get nat_cmp m e.0 ≡ Some e.1) es → (p : ℕ) → in_blocks es p ≡ true → is_on (blocks_state m p) ≡ true
blocks_on m [] all p h = absurd (false≢true h)
blocks_on m (e ∷ es) all p h =
    by_test (in_block e p)
    (λ t.
    let same : p / 32 ≡ e.0 = eqb-true (p / 32) e.0 (and_first (eqb (p / 32) e.0) (is_on (block_state (Some e.1) p)) t) in
    subst (λ q. is_on (block_state (get nat_cmp m q) p) ≡ true) (sym same) (ap (λ o. is_on (block_state o p)) all.0 ∙ and_second (eqb (p / 32) e.0) (is_on (block_state (Some e.1) p)) t))
    (λ t. blocks_on m es all.1 p (or_else (in_block e p) (in_blocks es p) h t))

on_blocks : (es : List (ℕ × ℕ)) (p : ℕ) → is_on (block_state (lookup (is_at (nat_cmp (p / 32))) es) p) ≡ true → in_blocks es p ≡ true
on_blocks [] p h = h
on_blocks (e ∷ es) p h =
    by_test (is_eq (nat_cmp (p / 32) e.0))
    (λ t.
    let same : p / 32 ≡ e.0 = exact_block (p / 32) e.0 t in
    let on : is_on (block_state (Some e.1) p) ≡ true = subst (λ b. is_on (block_state (cond b (Some e.1) (lookup (is_at (nat_cmp (p / 32))) es)) p) ≡ true) t h in
    or_left (in_block e p) (in_blocks es p) (both_true (eqb (p / 32) e.0) (is_on (block_state (Some e.1) p)) (eq-eqb (p / 32) e.0 same) on))
    (λ t. or_right (in_block e p) (in_blocks es p) (on_blocks es p (subst (λ b. is_on (block_state (cond b (Some e.1) (lookup (is_at (nat_cmp (p / 32))) es)) p) ≡ true) t h)))

pub in_blocks_is : (m : BTreeMap ℕ ℕ) → IsOrdered nat_cmp m → (p : ℕ) → in_blocks m.entries p ≡ is_on (blocks_state m p)
in_blocks_is m ordered p = one_bool _ _ (blocks_on m m.entries (recursion_from_All _ m.entries (All-found nat_cmp_total m ordered)) p) (on_blocks m.entries p)
