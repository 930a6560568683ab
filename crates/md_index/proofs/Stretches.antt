-- The texts between the edges of a probe are those whose keys are in its stretch.
use Rattle.std.proofs.Common.{◌≡◌, ℕ, Bool, true, false, not, cond, ◌&&◌, ◌||◌, List, [], ◌∷◌, refl, sym, ◌∙◌, ap, subst}
use Rattle.std.specs.Prelude.{ℤ, Option, Some, None, is_some, filter}
use Rattle.std.specs.declared.cmp.Ordering.{Ordering}
use Rattle.std.specs.declared.cmp.Ordering.TheVariants.{Less, Equal, Greater}
use Rattle.std.specs.Ordering.{nat_cmp, is_eq, is_le, is_ge, is_lt, is_gt, ordering_then, ordering_reverse}
use Rattle.std.specs.Cmp.Lexicographic.{slice_cmp}
use Rattle.std.specs.Option.{option_map}
use Rattle.std.specs.List.{list_any}
use Rattle.std.specs.BTreeMap.{BTreeMap, get, is_at, IsOrdered}
use Rattle.std.specs.BTreeMap.Range.{is_from_start, is_past_end, range_contains}
use Rattle.std.specs.BTreeSet.{keys_between}
use Rattle.std.proofs.lemmas.List.Elements.{recursion_from_All}
use Rattle.std.proofs.lemmas.Map.Views.{All-found}
use Rattle.std.proofs.lemmas.Bool.{false≢true, or_left, or_right}
use Rattle.md_value.specs.declared.value.Value.{Value}
use Rattle.md_value.specs.declared.value.Value.TheVariants as value
use Rattle.md_world.specs.Orders.{value_cmp}
use Rattle.md_world.proofs.Lookups.{by_test}
use Rattle.md_index.specs.declared.between.Mark.{Mark}
use Rattle.md_index.specs.declared.between.Mark.TheVariants as mark
use Rattle.md_index.specs.declared.between.Edge.{Edge}
use Rattle.md_index.specs.declared.between.Edge.TheVariants as edge
use Rattle.md_index.specs.declared.between.Probe.{Probe}
use Rattle.md_index.specs.declared.keyed.Keyed.{Keyed}
use Rattle.md_index.specs.declared.places.Places.{Places}
use Rattle.md_index.specs.declared.stretch.Stretch.{Stretch}
use Rattle.md_index.specs.Order.{name_total, value_total}
use Rattle.md_index.specs.Between.{mark_of, is_above, is_below, is_between, is_key_between}
use Rattle.md_index.specs.States.{is_on, value_state}
use Rattle.md_index.specs.Spans.{bound_at}
use Rattle.md_index.specs.Keys.{Keys, keyed_cmp, keyed_equiv, has_key, AreKeysOf, edge_key, before_texts, after_texts, is_of_texts, counted_keyed, IsStretchOf}
use Rattle.md_index.specs.Indexed.{counted_between}
use Rattle.md_index.proofs.Bools.{one_bool, and_first, and_second, or_else, both_true}
use Rattle.md_index.proofs.Exact.{exact_keyed}
use Rattle.md_index.proofs.Ranges.{between_found, between_counted}

-- ---- what is between the edges is a text

module _ (e : Edge) (n : ℤ) where
  number_above : (f : Edge) → is_some (edge_key f) ≡ true → is_above (mark.Number n) f ≡ true → ⊥
  number_above edge.None h k = false≢true h
  number_above (edge.With (mark.Text t)) h k = false≢true k
  number_above (edge.With (mark.Number t)) h k = false≢true h
  number_above (edge.With (mark.Moment t)) h k = false≢true h
  number_above (edge.Without (mark.Text t)) h k = false≢true k
  number_above (edge.Without (mark.Number t)) h k = false≢true h
  number_above (edge.Without (mark.Moment t)) h k = false≢true h

  number_below : (f : Edge) → is_some (edge_key f) ≡ true → is_below (mark.Number n) f ≡ true → ⊥
  number_below edge.None h k = false≢true h
  number_below (edge.With (mark.Text t)) h k = false≢true k
  number_below (edge.With (mark.Number t)) h k = false≢true h
  number_below (edge.With (mark.Moment t)) h k = false≢true h
  number_below (edge.Without (mark.Text t)) h k = false≢true k
  number_below (edge.Without (mark.Number t)) h k = false≢true h
  number_below (edge.Without (mark.Moment t)) h k = false≢true h

  moment_above : (f : Edge) → is_some (edge_key f) ≡ true → is_above (mark.Moment n) f ≡ true → ⊥
  moment_above edge.None h k = false≢true h
  moment_above (edge.With (mark.Text t)) h k = false≢true k
  moment_above (edge.With (mark.Number t)) h k = false≢true h
  moment_above (edge.With (mark.Moment t)) h k = false≢true h
  moment_above (edge.Without (mark.Text t)) h k = false≢true k
  moment_above (edge.Without (mark.Number t)) h k = false≢true h
  moment_above (edge.Without (mark.Moment t)) h k = false≢true h

  moment_below : (f : Edge) → is_some (edge_key f) ≡ true → is_below (mark.Moment n) f ≡ true → ⊥
  moment_below edge.None h k = false≢true h
  moment_below (edge.With (mark.Text t)) h k = false≢true k
  moment_below (edge.With (mark.Number t)) h k = false≢true h
  moment_below (edge.With (mark.Moment t)) h k = false≢true h
  moment_below (edge.Without (mark.Text t)) h k = false≢true k
  moment_below (edge.Without (mark.Number t)) h k = false≢true h
  moment_below (edge.Without (mark.Moment t)) h k = false≢true h

either : (a b : Bool) (P : Type 0) → a || b ≡ true → (a ≡ true → P) → (b ≡ true → P) → P
either true b P h f g = f refl
either false b P h f g = g h

text_between : (probe : Probe) → is_of_texts probe ≡ true → (m : Mark) → is_above m probe.low ≡ true → is_below m probe.high ≡ true → (k : List ℕ) × (m ≡ mark.Text k)
text_between probe texts (mark.Text k) above below = (k, refl)
text_between probe texts (mark.Number n) above below =
    absurd (either (is_some (edge_key probe.low)) (is_some (edge_key probe.high)) ⊥ texts (λ h. number_above probe.low n probe.low h above) (λ h. number_below probe.low n probe.high h below))
text_between probe texts (mark.Moment n) above below =
    absurd (either (is_some (edge_key probe.low)) (is_some (edge_key probe.high)) ⊥ texts (λ h. moment_above probe.low n probe.low h above) (λ h. moment_below probe.low n probe.high h below))

-- ---- its key is in the stretch

le_then : (o p : Ordering) → is_ge o ≡ true → is_le p ≡ true → is_le (ordering_then (ordering_reverse o) p) ≡ true
le_then Less p h k = absurd (false≢true h)
le_then Equal p h k = k
le_then Greater p h k = refl

gt_ge : (o : Ordering) → is_gt o ≡ true → is_ge o ≡ true
gt_ge Less h = h
gt_ge Equal h = refl
gt_ge Greater h = refl

lt_then : (o : Ordering) → is_le o ≡ true → is_lt (ordering_then (ordering_reverse o) Greater) ≡ false
lt_then Less h = refl
lt_then Equal h = refl
lt_then Greater h = absurd (false≢true h)

lt_le : (o : Ordering) → is_lt o ≡ true → is_le o ≡ true
lt_le Less h = refl
lt_le Equal h = refl
lt_le Greater h = h

least_text : (t : List ℕ) → is_le (slice_cmp nat_cmp [] t) ≡ true
least_text [] = refl
least_text (x ∷ xs) = refl

module _ (k t : List ℕ) where
  after_key : (a : List ℕ) → is_ge (slice_cmp nat_cmp k a) ≡ true → is_le (keyed_cmp (before_texts a) (record { key = k; indexed = value.Text t })) ≡ true
  after_key a h =
      subst (λ o. is_le (ordering_then o (slice_cmp nat_cmp [] t)) ≡ true) (sym (name_total.antisymm a k))
      (le_then (slice_cmp nat_cmp k a) (slice_cmp nat_cmp [] t) h (least_text t))

  before_key : (a : List ℕ) → is_le (slice_cmp nat_cmp k a) ≡ true → is_lt (keyed_cmp (after_texts a) (record { key = k; indexed = value.Text t })) ≡ false
  before_key a h = subst (λ o. is_lt (ordering_then o Greater) ≡ false) (sym (name_total.antisymm a k)) (lt_then (slice_cmp nat_cmp k a) h)

  from_key : (e : Edge) → is_above (mark.Text k) e ≡ true → is_from_start keyed_cmp (bound_at (option_map before_texts (edge_key e))) (record { key = k; indexed = value.Text t }) ≡ true
  from_key edge.None h = refl
  from_key (edge.With (mark.Text a)) h = after_key a h
  from_key (edge.With (mark.Number a)) h = refl
  from_key (edge.With (mark.Moment a)) h = refl
  from_key (edge.Without (mark.Text a)) h = after_key a (gt_ge (slice_cmp nat_cmp k a) h)
  from_key (edge.Without (mark.Number a)) h = refl
  from_key (edge.Without (mark.Moment a)) h = refl

  to_key : (e : Edge) → is_below (mark.Text k) e ≡ true → is_past_end keyed_cmp (bound_at (option_map after_texts (edge_key e))) (record { key = k; indexed = value.Text t }) ≡ false
  to_key edge.None h = refl
  to_key (edge.With (mark.Text a)) h = before_key a h
  to_key (edge.With (mark.Number a)) h = refl
  to_key (edge.With (mark.Moment a)) h = refl
  to_key (edge.Without (mark.Text a)) h = before_key a (lt_le (slice_cmp nat_cmp k a) h)
  to_key (edge.Without (mark.Number a)) h = refl
  to_key (edge.Without (mark.Moment a)) h = refl

in_stretch : (probe : Probe) (k : List ℕ) (v : Value) → mark_of probe.fold probe.marks v ≡ mark.Text k → is_key_between probe k ≡ true
    → range_contains keyed_cmp (bound_at (option_map before_texts (edge_key probe.low))) (bound_at (option_map after_texts (edge_key probe.high))) (record { key = k; indexed = v }) ≡ true
in_stretch probe k (value.Text t) is h =
    rw (
      from_key k t probe.low (and_first (is_above (mark.Text k) probe.low) (is_below (mark.Text k) probe.high) h),
      to_key k t probe.high (and_second (is_above (mark.Text k) probe.low) (is_below (mark.Text k) probe.high) h),
    ) refl
in_stretch probe k (value.Number n) is h = cc
in_stretch probe k (value.Flag b) is h = cc
in_stretch probe k (value.Moment n) is h = cc

-- ---- tests of a part of a list

module _ (test part : Keyed → Bool) where
  found_there : (ks : List Keyed) → list_any test (filter part ks) ≡ true → (x : Keyed) × (test x ≡ true) × (list_any (is_at (keyed_cmp x)) ks ≡ true)
  found_there [] h = absurd (false≢true h)
  found_there (x ∷ xs) h =
      by_test (part x)
      (λ e.
      let all : test x || list_any test (filter part xs) ≡ true = subst (λ b. list_any test (cond b (x ∷ filter part xs) (filter part xs)) ≡ true) e h in
      by_test (test x)
      (λ t. (x, t, or_left (is_eq (keyed_cmp x x)) (list_any (is_at (keyed_cmp x)) xs) (keyed_equiv.refl x)))
      (λ t. later (found_there xs (or_else (test x) (list_any test (filter part xs)) all t))))
      (λ e. later (found_there xs (subst (λ b. list_any test (cond b (x ∷ filter part xs) (filter part xs)) ≡ true) e h)))
    where
      later : (y : Keyed) × (test y ≡ true) × (list_any (is_at (keyed_cmp y)) xs ≡ true) → (y : Keyed) × (test y ≡ true) × (list_any (is_at (keyed_cmp y)) (x ∷ xs) ≡ true)
      later y = (y.0, y.1, or_right (is_eq (keyed_cmp y.0 x)) (list_any (is_at (keyed_cmp y.0)) xs) y.2)

  any_there : (x : Keyed) (ks : List Keyed) → test x ≡ true → part x ≡ true → list_any (is_at (keyed_cmp x)) ks ≡ true → list_any test (filter part ks) ≡ true
  any_there x [] t p h = h
  any_there x (y ∷ ys) t p h =
      by_test (is_eq (keyed_cmp x y))
      (λ e.
      let same : x ≡ y = exact_keyed x y e in
      let inside : part y ≡ true = subst (λ z. part z ≡ true) same p in
      let passes : test y ≡ true = subst (λ z. test z ≡ true) same t in
      rw inside (or_left (test y) (list_any test (filter part ys)) passes))
      (λ e.
      let rest = any_there x ys t p (or_else (is_eq (keyed_cmp x y)) (list_any (is_at (keyed_cmp x)) ys) h e) in
      by_test (part y)
      (λ i. rw i (or_right (test y) (list_any test (filter part ys)) rest))
      (λ i. rw i rest))

-- ---- what is counted by keys

pub keyed_is : (probe : Probe) (keys : Keys) (values : BTreeMap Value Places) (stretch : Stretch) → IsOrdered value_cmp values → IsStretchOf probe stretch → AreKeysOf probe keys values
    → (p : ℕ) → counted_keyed probe values (keys_between keyed_cmp (bound_at stretch.low) (bound_at stretch.high) keys) p ≡ counted_between probe values.entries p
keyed_is probe keys values stretch ordered is fits p =
    let test : Keyed → Bool = λ k. is_key_between probe k.key && is_on (value_state values k.indexed p) in
    let low = option_map before_texts (edge_key probe.low) in
    let high = option_map after_texts (edge_key probe.high) in
    ap (λ l. counted_keyed probe values (keys_between keyed_cmp (bound_at l) (bound_at stretch.high) keys) p) is.low
    ∙ ap (λ h. counted_keyed probe values (keys_between keyed_cmp (bound_at low) (bound_at h) keys) p) is.high
    ∙ one_bool _ _
    (λ h.
    let x = found_there test (range_contains keyed_cmp (bound_at low) (bound_at high)) keys.keys h in
    let own : mark_of probe.fold probe.marks x.0.indexed ≡ mark.Text x.0.key = fits.right x.0.key x.0.indexed x.2 in
    let between : is_between probe x.0.indexed ≡ true = ap (λ m. is_above m probe.low && is_below m probe.high) own ∙ and_first (is_key_between probe x.0.key) (is_on (value_state values x.0.indexed p)) x.1 in
    between_counted probe values.entries x.0.indexed p between (and_second (is_key_between probe x.0.key) (is_on (value_state values x.0.indexed p)) x.1))
    (λ h.
    let b = between_found probe values values.entries (recursion_from_All _ values.entries (All-found value_total values ordered)) p h in
    let m = mark_of probe.fold probe.marks b.value in
    let text = text_between probe is.texts m (and_first (is_above m probe.low) (is_below m probe.high) b.between) (and_second (is_above m probe.low) (is_below m probe.high) b.between) in
    let inside : is_key_between probe text.0 ≡ true = ap (λ n. is_above n probe.low && is_below n probe.high) (sym text.1) ∙ b.between in
    let x : Keyed = record { key = text.0; indexed = b.value } in
    any_there test (range_contains keyed_cmp (bound_at low) (bound_at high)) x keys.keys (both_true (is_key_between probe text.0) (is_on (value_state values b.value p)) inside b.on)
    (in_stretch probe text.0 b.value text.1 inside) (fits.whole text.0 b.value p text.1 b.on))
