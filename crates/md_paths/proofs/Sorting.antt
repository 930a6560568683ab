-- Where a path stands among those in order.
use Rattle.std.proofs.Common.{◌≡◌, ℕ, zero, suc, ◌<◌, true, false, List, [], ◌∷◌, map, length, get_or, refl, sym, ap, ◌∙◌, subst, arith}
use Rattle.std.specs.Prelude.{Option, None, Some, ◌==◌, slice_get}
use Rattle.std.specs.Option.{option_map_or}
use Rattle.std.specs.List.{AllByRecursion, prefix_len}
use Rattle.std.specs.List.Sorted.{IsPartitionedBy}
use Rattle.std.proofs.Math.Numerals.{one-add}
use Rattle.std.proofs.lemmas.Bool.Decides.{nat_tests}
use Rattle.std.proofs.lemmas.Option.{slice_get-get_or, slice_get_within, get_or_from_slice_get}
use Rattle.std.proofs.lemmas.Bool.{false≢true, true≢false}
use Rattle.md_value.specs.Values.{PathBytes, is_same, is_before}
use Rattle.md_value.proofs.Orders.{same_exact, same_refl, before_trans, itself_not_before}
use Rattle.md_world.proofs.Lookups.{by_test, some_inj}
use Rattle.md_paths.specs.Tables.{next_number, number_in, path_in, has_at, stands_before, Ascend, lists, AreSorted}

-- a path stands before all of these
abbrev pub IsBeforeAll : PathBytes → List PathBytes → Type 0
IsBeforeAll path paths = AllByRecursion (λ later. is_before path later ≡ true) paths

-- these are numbers of paths
abbrev pub AreWithin : List PathBytes → List ℕ → Type 0
AreWithin keys order = AllByRecursion (λ number. number < length keys) order

module _ (keys : List PathBytes) where
  pub stands : (path : PathBytes) (n : ℕ) → n < length keys → stands_before keys path n ≡ is_before (path_in keys n) path
  stands path n lt = ap (λ o. option_map_or (λ key. is_before key path) o false) (slice_get-get_or keys n [] lt)

  pub within_at : (order : List ℕ) (j d : ℕ) → AreWithin keys order → j < length order → get_or order j d < length keys
  within_at [] j d h lt = absurd (omega arith)
  within_at (n ∷ order) zero d h lt = h.0
  within_at (n ∷ order) (suc j) d h lt = within_at order j d h.1 (omega arith)

  ahead : (path : PathBytes) (order : List ℕ) (j d : ℕ) → IsBeforeAll path (map (path_in keys) order) → j < length order → is_before path (path_in keys (get_or order j d)) ≡ true
  ahead path [] j d h lt = absurd (omega arith)
  ahead path (n ∷ order) zero d h lt = h.0
  ahead path (n ∷ order) (suc j) d h lt = ahead path order j d h.1 (omega arith)

  first_too : (path : PathBytes) (n m : ℕ) → n < length keys → m < length keys → is_before (path_in keys n) (path_in keys m) ≡ true → stands_before keys path m ≡ true → stands_before keys path n ≡ true
  first_too path n m hn hm b e = stands path n hn ∙ before_trans (path_in keys n) (path_in keys m) path b (sym (stands path m hm) ∙ e)

  -- the paths that stand before one come first
  pub parted : (path : PathBytes) (order : List ℕ) → AreWithin keys order → Ascend (map (path_in keys) order) → IsPartitionedBy (stands_before keys path) order
  parted path [] w h i j d le lt e = absurd (omega arith)
  parted path (n ∷ order) w h zero zero d le lt e = e
  parted path (n ∷ order) w h zero (suc j) d le lt e =
      first_too path n (get_or order j d) w.0 (within_at order j d w.1 (omega arith)) (ahead (path_in keys n) order j d h.0 (omega arith)) e
  parted path (n ∷ order) w h (suc i) zero d le lt e = absurd (omega arith)
  parted path (n ∷ order) w h (suc i) (suc j) d le lt e = parted path order w.1 h.1 i j d (omega arith) (omega arith) e

  -- and before each that is listed
  pub ahead_listed : (path : PathBytes) (order : List ℕ) (i : ℕ) → IsBeforeAll path (map (path_in keys) order) → lists order i → is_before path (path_in keys i) ≡ true
  ahead_listed path [] i h l = cc
  ahead_listed path (n ∷ order) i h l =
      by_test (n == i)
      (λ b. let same : n ≡ i = grind (arith, nat_tests) in subst (λ (k : ℕ). is_before path (path_in keys k) ≡ true) same h.0)
      (λ b. ahead_listed path order i h.1 (rw b at l))

  -- a path that is listed stands at its rank
  pub ranked : (order : List ℕ) (i : ℕ) → AreWithin keys order → Ascend (map (path_in keys) order) → lists order i → slice_get order (prefix_len (stands_before keys (path_in keys i)) order) ≡ Some i
  ranked [] i w h l = cc
  ranked (n ∷ order) i w h l =
      by_test (n == i)
      (λ b.
      let same : n ≡ i = grind (arith, nat_tests) in
      let itself : stands_before keys (path_in keys i) n ≡ false = stands (path_in keys i) n w.0 ∙ ap (λ (k : ℕ). is_before (path_in keys k) (path_in keys i)) same ∙ itself_not_before (path_in keys i) in
      rw itself (ap Some same))
      (λ b.
      let rest = rw b at l in
      let later : stands_before keys (path_in keys i) n ≡ true = stands (path_in keys i) n w.0 ∙ ahead_listed (path_in keys n) order i h.0 rest in
      rw (later, one-add) (ranked order i w.1 h.1 rest))

next_some : (o : Option ℕ) (i : ℕ) → next_number o ≡ Some (suc i) → o ≡ Some i
next_some None i h = cc
next_some (Some j) i h = cc

next_not_zero : (o : Option ℕ) → next_number o ≡ Some zero → ⊥
next_not_zero None h = cc
next_not_zero (Some j) h = cc

next_none : (o : Option ℕ) → next_number o ≡ None → o ≡ None
next_none None h = refl
next_none (Some i) h = cc

zero_not_suc : (i : ℕ) → Some zero ≡ Some (suc i) → ⊥
zero_not_suc i h = cc

zero_none : Some zero ≡ None → ⊥
zero_none h = cc

some_none : (i : ℕ) → Some i ≡ None → ⊥
some_none i h = cc

-- the path of a number that is found
pub number_own : (keys : List PathBytes) (path : PathBytes) (i : ℕ) → number_in keys path ≡ Some i → (i < length keys) × (path_in keys i ≡ path)
number_own [] path i h = cc
number_own (key ∷ keys) path zero h =
    by_test (is_same key path)
    (λ b. (omega arith, same_exact key path b))
    (λ b. absurd (next_not_zero (number_in keys path) (rw b at h)))
number_own (key ∷ keys) path (suc i) h =
    by_test (is_same key path)
    (λ b. absurd (zero_not_suc i (rw b at h)))
    (λ b. let rest = number_own keys path i (next_some (number_in keys path) i (rw b at h)) in let lt = rest.0 in (omega arith, rest.1))

-- a path that has no number is that of none
pub number_none : (keys : List PathBytes) (path : PathBytes) (i : ℕ) → number_in keys path ≡ None → i < length keys → is_same (path_in keys i) path ≡ false
number_none [] path i h lt = absurd (omega arith)
number_none (key ∷ keys) path zero h lt =
    by_test (is_same key path)
    (λ b. absurd (zero_none (rw b at h)))
    (λ b. b)
number_none (key ∷ keys) path (suc i) h lt =
    by_test (is_same key path)
    (λ b. absurd (zero_none (rw b at h)))
    (λ b. number_none keys path i (next_none (number_in keys path) (rw b at h)) (omega arith))

module _ (keys : List PathBytes) (order : List ℕ) (path : PathBytes) (sorted : AreSorted keys order) where
  abbrev rank : ℕ
  rank = prefix_len (stands_before keys path) order

  at_rank : (i : ℕ) → number_in keys path ≡ Some i → slice_get order rank ≡ Some i
  at_rank i h =
      let own = number_own keys path i h in
      subst (λ (p : PathBytes). slice_get order (prefix_len (stands_before keys p) order) ≡ Some i) own.1 (ranked keys order i sorted.within sorted.ascend (sorted.all i own.0))

  none_by : (o : Option ℕ) → number_in keys path ≡ o → ((i : ℕ) → number_in keys path ≡ Some i → ⊥) → None ≡ o
  none_by None e f = refl
  none_by (Some i) e f = absurd (f i e)

  -- where no path stands at the rank, or another one, the path is not there
  pub none_there : slice_get order rank ≡ None → None ≡ number_in keys path
  none_there h = none_by (number_in keys path) refl (λ i e. some_none i (sym (at_rank i e) ∙ h))

  pub other_there : (n : ℕ) → slice_get order rank ≡ Some n → has_at keys n path ≡ false → None ≡ number_in keys path
  other_there n there apart =
      none_by (number_in keys path) refl
      (λ i e.
      let same : n ≡ i = some_inj n i (sym there ∙ at_rank i e) in
      let own = number_own keys path i e in
      let key : slice_get keys n ≡ Some path = ap (slice_get keys) same ∙ slice_get-get_or keys i [] own.0 ∙ ap Some own.1 in
      true≢false (sym (same_refl path) ∙ ap (λ o. option_map_or (λ key. is_same key path) o false) (sym key) ∙ apart))

  -- where the path itself stands there, it has that number
  pub same_there : (n : ℕ) → slice_get order rank ≡ Some n → has_at keys n path ≡ true → Some n ≡ number_in keys path
  same_there n there same = cases (number_in keys path) refl (slice_get keys n) refl
    where
      cases : (o : Option ℕ) → number_in keys path ≡ o → (k : Option PathBytes) → slice_get keys n ≡ k → Some n ≡ o
      cases (Some i) e k is = sym there ∙ at_rank i e
      cases None e None is = absurd (false≢true (sym (ap (λ o. option_map_or (λ key. is_same key path) o false) is) ∙ same))
      cases None e (Some other) is =
          let own : path_in keys n ≡ other = get_or_from_slice_get keys n other [] is in
          let here : is_same other path ≡ true = sym (ap (λ o. option_map_or (λ key. is_same key path) o false) is) ∙ same in
          absurd (false≢true (sym (number_none keys path n e (slice_get_within keys n other is)) ∙ ap (λ (p : PathBytes). is_same p path) own ∙ here))

  -- the number of any place that has the path
  pub guessed : (n : ℕ) → has_at keys n path ≡ true → Some n ≡ number_in keys path
  guessed n same = cases (slice_get keys n) refl
    where
      cases : (k : Option PathBytes) → slice_get keys n ≡ k → Some n ≡ number_in keys path
      cases None is = absurd (false≢true (sym (ap (λ o. option_map_or (λ key. is_same key path) o false) is) ∙ same))
      cases (Some other) is =
          let own : path_in keys n ≡ other = get_or_from_slice_get keys n other [] is in
          let here : is_same other path ≡ true = sym (ap (λ o. option_map_or (λ key. is_same key path) o false) is) ∙ same in
          let at : path_in keys n ≡ path = own ∙ same_exact other path here in
          same_there n (subst (λ (p : PathBytes). slice_get order (prefix_len (stands_before keys p) order) ≡ Some n) at (ranked keys order n sorted.within sorted.ascend (sorted.all n (slice_get_within keys n other is)))) same
