-- Values between the edges of a probe are between the values at its edges, or flags.
use Rattle.std.proofs.Common.{◌≡◌, ℕ, Bool, true, false, not, ◌&&◌, ◌||◌, List, [], ◌∷◌, refl, sym, ◌∙◌, ap, subst, arith}
use Rattle.std.specs.Prelude.{ℤ, pos, ◌+ℤ◌, ◌≤ℤ◌, ◌<ℤ◌, ◌^◌, Option, None, Some, filter}
use Rattle.std.specs.declared.cmp.Ordering.{Ordering}
use Rattle.std.specs.declared.cmp.Ordering.TheVariants.{Less, Equal, Greater}
use Rattle.std.specs.Ordering.{int_cmp, is_lt, is_gt, is_le, is_ge, is_eq, ordering_reverse, MatchOrdering}
use Rattle.std.specs.Option.{option_map_or}
use Rattle.std.specs.BTreeMap.Range.{is_from_start, is_past_end}
use Rattle.std.specs.List.{list_any}
use Rattle.std.proofs.lemmas.Cmp.{int_ranked}
use Rattle.std.proofs.lemmas.Int.{ints}
use Rattle.std.proofs.lemmas.Bool.{false≢true, true≢false, or_left, or_right}
use Rattle.md_value.specs.declared.value.Value.{Value}
use Rattle.md_value.specs.declared.value.Value.TheVariants as value
use Rattle.md_world.specs.Orders.{value_cmp}
use Rattle.md_world.proofs.Lookups.{by_test}
use Rattle.md_index.specs.declared.between.Mark.{Mark}
use Rattle.md_index.specs.declared.between.Mark.TheVariants as mark
use Rattle.md_index.specs.declared.between.Edge.{Edge}
use Rattle.md_index.specs.declared.between.Edge.TheVariants as edge
use Rattle.md_index.specs.declared.between.Probe.{Probe}
use Rattle.md_index.specs.Between.{parts, mark_of, mark_cmp, is_above, is_below, is_between}
use Rattle.md_index.specs.Order.{value_total}
use Rattle.md_index.specs.Spans.{IsFloor, IsFloorOf, bound_at, is_forward, is_within, within}
use Rattle.md_index.specs.States.{is_on, place_state}
use Rattle.md_index.specs.declared.places.Places.{Places}
use Rattle.md_index.specs.Indexed.{counted_between}
use Rattle.md_index.proofs.Bools.{and_first, and_second, and_true, and_false, or_nothing}
use Rattle.md_index.proofs.Exact.{exact_value}

-- two numbers by their order
module _ (a b : ℤ) where
  by_equal : a ≡ b → (a ≤ℤ b) × (b ≤ℤ a)
  by_equal e = (omega (arith, ints), omega (arith, ints))

  by_less : a <ℤ b → a ≤ℤ b
  by_less h = omega (arith, ints)

  by_more : b <ℤ a → b ≤ℤ a
  by_more h = omega (arith, ints)

  not_both : b <ℤ a → a ≤ℤ b → ⊥
  not_both h k = omega (arith, ints)

  not_other : a <ℤ b → b ≤ℤ a → ⊥
  not_other h k = omega (arith, ints)

  less_by : (o : Ordering) → MatchOrdering o (a <ℤ b) (a ≡ b) (b <ℤ a) → is_lt o ≡ false → b ≤ℤ a
  less_by Less m h = cc
  less_by Equal m h = (by_equal m).1
  less_by Greater m h = by_more m

  greater_by : (o : Ordering) → MatchOrdering o (a <ℤ b) (a ≡ b) (b <ℤ a) → is_gt o ≡ false → a ≤ℤ b
  greater_by Less m h = by_less m
  greater_by Equal m h = (by_equal m).0
  greater_by Greater m h = cc

  most_by : (o : Ordering) → MatchOrdering o (a <ℤ b) (a ≡ b) (b <ℤ a) → a ≤ℤ b → is_le o ≡ true
  most_by Less m h = refl
  most_by Equal m h = refl
  most_by Greater m h = absurd (not_both m h)

  below_by : (o : Ordering) → MatchOrdering o (a <ℤ b) (a ≡ b) (b <ℤ a) → b ≤ℤ a → is_lt o ≡ false
  below_by Less m h = absurd (not_other m h)
  below_by Equal m h = refl
  below_by Greater m h = refl

  ranks : MatchOrdering (int_cmp a b) (a <ℤ b) (a ≡ b) (b <ℤ a)
  ranks = int_ranked a b (int_cmp a b) refl

  pub not_less : is_lt (int_cmp a b) ≡ false → b ≤ℤ a
  not_less h = less_by (int_cmp a b) ranks h

  pub not_greater : is_gt (int_cmp a b) ≡ false → a ≤ℤ b
  not_greater h = greater_by (int_cmp a b) ranks h

  pub at_most : a ≤ℤ b → is_le (int_cmp a b) ≡ true
  at_most h = most_by (int_cmp a b) ranks h

  pub not_below : b ≤ℤ a → is_lt (int_cmp a b) ≡ false
  not_below h = below_by (int_cmp a b) ranks h

parts_least : (q m n : ℤ) → parts q ≤ℤ m → m ≤ℤ parts n → q ≤ℤ n
parts_least q m n h k = omega (arith, ints)

parts_most : (q m n : ℤ) → m <ℤ (parts q +ℤ pos (10 ^ 9)) → parts n ≤ℤ m → n ≤ℤ q
parts_most q m n h k = omega (arith, ints)

-- flags stand between false and true
pub is_flag : Value → Bool
is_flag (value.Flag flag) = true
is_flag v = false

pub flag_within : (v : Value) → is_flag v ≡ true → is_within (Some (value.Flag false)) (Some (value.Flag true)) v ≡ true
unfolding is_flag
flag_within (value.Text t) h = cc
flag_within (value.Number n) h = cc
flag_within (value.Flag true) h = refl
flag_within (value.Flag false) h = refl
flag_within (value.Moment n) h = cc

not_none : {X : Type 0} (x : X) → None ≡ Some x → ⊥
not_none x e = cc

some_same : (a b : Ordering) → Some a ≡ Some b → a ≡ b
some_same a b e = cc

module _ (fold marks : Bool) where
  -- a value that is not below the mark is not before the value there
  from_low : (m : Mark) (low : Option Value) → IsFloor m low → (v : Value) → is_flag v ≡ false → (o : Ordering) → mark_cmp (mark_of fold marks v) m ≡ Some o → is_lt o ≡ false → is_from_start value_cmp (bound_at low) v ≡ true
  unfolding is_flag
  from_low m None f v h o e k = refl
  from_low (mark.Number m) (Some (value.Number q)) f (value.Number n) h o e k = at_most q n (parts_least q m n f.0 (not_less (parts n) m (ap is_lt (some_same (int_cmp (parts n) m) o e) ∙ k)))
  from_low (mark.Number m) (Some (value.Number q)) f (value.Text t) h o e k = absurd (not_none o e)
  from_low (mark.Number m) (Some (value.Number q)) f (value.Flag b) h o e k = cc
  from_low (mark.Number m) (Some (value.Number q)) f (value.Moment n) h o e k = absurd (not_none o e)
  from_low (mark.Moment m) (Some (value.Moment q)) f (value.Moment n) h o e k = at_most q n (subst (λ x. x ≤ℤ n) (sym f) (not_less n m (ap is_lt (some_same (int_cmp n m) o e) ∙ k)))
  from_low (mark.Moment m) (Some (value.Moment q)) f (value.Text t) h o e k = absurd (not_none o e)
  from_low (mark.Moment m) (Some (value.Moment q)) f (value.Flag b) h o e k = absurd (not_none o e)
  from_low (mark.Moment m) (Some (value.Moment q)) f (value.Number n) h o e k = absurd (not_none o e)
  from_low (mark.Text t) (Some (value.Text w)) f v h o e k = absurd f
  from_low (mark.Text t) (Some (value.Number w)) f v h o e k = absurd f
  from_low (mark.Text t) (Some (value.Flag w)) f v h o e k = absurd f
  from_low (mark.Text t) (Some (value.Moment w)) f v h o e k = absurd f
  from_low (mark.Number m) (Some (value.Text w)) f v h o e k = absurd f
  from_low (mark.Number m) (Some (value.Flag w)) f v h o e k = absurd f
  from_low (mark.Number m) (Some (value.Moment w)) f v h o e k = absurd f
  from_low (mark.Moment m) (Some (value.Text w)) f v h o e k = absurd f
  from_low (mark.Moment m) (Some (value.Flag w)) f v h o e k = absurd f
  from_low (mark.Moment m) (Some (value.Number w)) f v h o e k = absurd f

  to_high : (m : Mark) (high : Option Value) → IsFloor m high → (v : Value) → is_flag v ≡ false → (o : Ordering) → mark_cmp (mark_of fold marks v) m ≡ Some o → is_gt o ≡ false → is_past_end value_cmp (bound_at high) v ≡ false
  unfolding is_flag
  to_high m None f v h o e k = refl
  to_high (mark.Number m) (Some (value.Number q)) f (value.Number n) h o e k = not_below q n (parts_most q m n f.1 (not_greater (parts n) m (ap is_gt (some_same (int_cmp (parts n) m) o e) ∙ k)))
  to_high (mark.Number m) (Some (value.Number q)) f (value.Text t) h o e k = absurd (not_none o e)
  to_high (mark.Number m) (Some (value.Number q)) f (value.Flag b) h o e k = cc
  to_high (mark.Number m) (Some (value.Number q)) f (value.Moment n) h o e k = absurd (not_none o e)
  to_high (mark.Moment m) (Some (value.Moment q)) f (value.Moment n) h o e k = not_below q n (subst (λ x. n ≤ℤ x) (sym f) (not_greater n m (ap is_gt (some_same (int_cmp n m) o e) ∙ k)))
  to_high (mark.Moment m) (Some (value.Moment q)) f (value.Text t) h o e k = absurd (not_none o e)
  to_high (mark.Moment m) (Some (value.Moment q)) f (value.Flag b) h o e k = absurd (not_none o e)
  to_high (mark.Moment m) (Some (value.Moment q)) f (value.Number n) h o e k = absurd (not_none o e)
  to_high (mark.Text t) (Some (value.Text w)) f v h o e k = absurd f
  to_high (mark.Text t) (Some (value.Number w)) f v h o e k = absurd f
  to_high (mark.Text t) (Some (value.Flag w)) f v h o e k = absurd f
  to_high (mark.Text t) (Some (value.Moment w)) f v h o e k = absurd f
  to_high (mark.Number m) (Some (value.Text w)) f v h o e k = absurd f
  to_high (mark.Number m) (Some (value.Flag w)) f v h o e k = absurd f
  to_high (mark.Number m) (Some (value.Moment w)) f v h o e k = absurd f
  to_high (mark.Moment m) (Some (value.Text w)) f v h o e k = absurd f
  to_high (mark.Moment m) (Some (value.Flag w)) f v h o e k = absurd f
  to_high (mark.Moment m) (Some (value.Number w)) f v h o e k = absurd f

ge_not_lt : (o : Ordering) → is_ge o ≡ true → is_lt o ≡ false
ge_not_lt Less h = cc
ge_not_lt Equal h = refl
ge_not_lt Greater h = refl

gt_not_lt : (o : Ordering) → is_gt o ≡ true → is_lt o ≡ false
gt_not_lt Less h = cc
gt_not_lt Equal h = refl
gt_not_lt Greater h = refl

le_not_gt : (o : Ordering) → is_le o ≡ true → is_gt o ≡ false
le_not_gt Less h = refl
le_not_gt Equal h = refl
le_not_gt Greater h = cc

lt_not_gt : (o : Ordering) → is_lt o ≡ true → is_gt o ≡ false
lt_not_gt Less h = refl
lt_not_gt Equal h = refl
lt_not_gt Greater h = cc

-- what two marks compare as passes a test
tested : (c : Option Ordering) (test : Ordering → Bool) (P : Type 0) → option_map_or test c false ≡ true → ((o : Ordering) → c ≡ Some o → test o ≡ true → P) → P
tested None test P h f = absurd (false≢true h)
tested (Some o) test P h f = f o refl h

low_covers : (fold marks : Bool) (e : Edge) (low : Option Value) → IsFloorOf e low → (v : Value) → is_flag v ≡ false → is_above (mark_of fold marks v) e ≡ true → is_from_start value_cmp (bound_at low) v ≡ true
low_covers fold marks edge.None None f v h k = refl
low_covers fold marks edge.None (Some w) f v h k = absurd f
low_covers fold marks (edge.With m) low f v h k = tested (mark_cmp (mark_of fold marks v) m) is_ge _ k (λ o e t. from_low fold marks m low f v h o e (ge_not_lt o t))
low_covers fold marks (edge.Without m) low f v h k = tested (mark_cmp (mark_of fold marks v) m) is_gt _ k (λ o e t. from_low fold marks m low f v h o e (gt_not_lt o t))

high_covers : (fold marks : Bool) (e : Edge) (high : Option Value) → IsFloorOf e high → (v : Value) → is_flag v ≡ false → is_below (mark_of fold marks v) e ≡ true → is_past_end value_cmp (bound_at high) v ≡ false
high_covers fold marks edge.None None f v h k = refl
high_covers fold marks edge.None (Some w) f v h k = absurd f
high_covers fold marks (edge.With m) high f v h k = tested (mark_cmp (mark_of fold marks v) m) is_le _ k (λ o e t. to_high fold marks m high f v h o e (le_not_gt o t))
high_covers fold marks (edge.Without m) high f v h k = tested (mark_cmp (mark_of fold marks v) m) is_lt _ k (λ o e t. to_high fold marks m high f v h o e (lt_not_gt o t))

covers : (probe : Probe) (low high : Option Value) → IsFloorOf probe.low low → IsFloorOf probe.high high → (v : Value) → is_flag v ≡ false → is_between probe v ≡ true → is_within low high v ≡ true
covers probe low high f g v h k =
    let m = mark_of probe.fold probe.marks v in
    let from = low_covers probe.fold probe.marks probe.low low f v h (and_first (is_above m probe.low) (is_below m probe.high) k) in
    let to = high_covers probe.fold probe.marks probe.high high g v h (and_second (is_above m probe.low) (is_below m probe.high) k) in
    rw (from, to) refl

parts_bool : (f t u a b : Bool) → (f ≡ true → t || u ≡ true) → ((f && t) || a) || ((f && u) || b) ≡ f || (a || b)
parts_bool false t u a b h = refl
parts_bool true true u a b h = refl
parts_bool true false true true b h = refl
parts_bool true false true false b h = refl
parts_bool true false false a b h = absurd (false≢true (h refl))

module _ {X : Type 0} (f t u : X → Bool) (cover : (x : X) → f x ≡ true → t x || u x ≡ true) where
  any_left : (s : X → Bool) (x : X) (xs : List X) → list_any f (filter s (x ∷ xs)) ≡ (f x && s x) || list_any f (filter s xs)
  any_left s x xs =
      by_test (s x)
      (λ e. rw e (ap (λ b. b || list_any f (filter s xs)) (sym (and_true (f x)))))
      (λ e. rw e (ap (λ b. b || list_any f (filter s xs)) (sym (and_false (f x)))))

  any_parts : (xs : List X) → list_any f (filter t xs) || list_any f (filter u xs) ≡ list_any f xs
  any_parts [] = refl
  any_parts (x ∷ xs) =
      ap (λ b. b || list_any f (filter u (x ∷ xs))) (any_left t x xs)
      ∙ ap (λ b. ((f x && t x) || list_any f (filter t xs)) || b) (any_left u x xs)
      ∙ parts_bool (f x) (t x) (u x) (list_any f (filter t xs)) (list_any f (filter u xs)) (cover x)
      ∙ ap (λ b. f x || b) (any_parts xs)

-- the values between the edges are among the flags and those between the values at the edges
pub parted : (probe : Probe) (low high : Option Value) → IsFloorOf probe.low low → IsFloorOf probe.high high → (es : List (Value × Places)) (p : ℕ)
    → counted_between probe (within (Some (value.Flag false)) (Some (value.Flag true)) es) p || counted_between probe (within low high es) p ≡ counted_between probe es p
parted probe low high f g es p =
    any_parts (λ (e : Value × Places). is_between probe e.0 && is_on (place_state e.1 p))
    (λ e. is_within (Some (value.Flag false)) (Some (value.Flag true)) e.0) (λ e. is_within low high e.0)
    (λ e h.
    let first = is_within (Some (value.Flag false)) (Some (value.Flag true)) e.0 in
    let second = is_within low high e.0 in
    let between = and_first (is_between probe e.0) (is_on (place_state e.1 p)) h in
    by_test (is_flag e.0)
    (λ is. or_left first second (flag_within e.0 is))
    (λ not. or_right first second (covers probe low high f g e.0 not between)))
    es

-- no value is between two of which the second is before the first
module _ (a b v : Value) where
  before_back : (o u : Ordering) → value_cmp a v ≡ o → value_cmp b v ≡ u → is_le (value_cmp a b) ≡ false → is_le o && not (is_lt u) ≡ false
  before_back Greater u e h k = refl
  before_back Less Less e h k = refl
  before_back Equal Less e h k = refl
  before_back Less Equal e h k =
      let same : b ≡ v = exact_value b v (ap is_eq h) in
      absurd (false≢true (sym k ∙ ap (λ w. is_le (value_cmp a w)) same ∙ ap is_le e))
  before_back Equal Equal e h k =
      let same : b ≡ v = exact_value b v (ap is_eq h) in
      absurd (false≢true (sym k ∙ ap (λ w. is_le (value_cmp a w)) same ∙ ap is_le e))
  before_back Equal Greater e h k =
      let same : a ≡ v = exact_value a v (ap is_eq e) in
      absurd (false≢true (sym k ∙ ap (λ w. is_le (value_cmp w b)) same ∙ ap is_le (value_total.antisymm v b ∙ ap ordering_reverse h)))
  before_back Less Greater e h k =
      let later : value_cmp v b ≡ Less = value_total.antisymm v b ∙ ap ordering_reverse h in
      absurd (false≢true (sym k ∙ ap is_le (value_total.trans a v b e later)))

backward : (low high : Option Value) → is_forward low high ≡ false → (v : Value) → is_within low high v ≡ false
backward None high h v = absurd (true≢false h)
backward (Some a) None h v = absurd (true≢false h)
backward (Some a) (Some b) h v = before_back a b v (value_cmp a v) (value_cmp b v) refl refl h

pub none_backward : (probe : Probe) (low high : Option Value) → is_forward low high ≡ false → (es : List (Value × Places)) (p : ℕ) → counted_between probe (within low high es) p ≡ false
none_backward probe low high h [] p = refl
none_backward probe low high h (e ∷ es) p = rw (backward low high h e.0) (none_backward probe low high h es p)

pub stays_backward : (probe : Probe) (low high : Option Value) → is_forward low high ≡ false → (es : List (Value × Places)) (p : ℕ) (b : Bool) → b ≡ b || counted_between probe (within low high es) p
stays_backward probe low high h es p b = sym (ap (λ c. b || c) (none_backward probe low high h es p) ∙ or_nothing b)
