-- Sets of places as lists in order.
use Rattle.std.proofs.Common.{◌≡◌, ℕ, suc, ◌+◌, ◌<◌, ◌≤◌, Bool, true, false, not, cond, ◌&&◌, ◌||◌, List, [], ◌∷◌, length, map, take, drop, ◌-◌, refl, sym, ◌∙◌, ap, subst, eqb, leb, ltb, arith}
use Rattle.std.specs.Prelude.{Option, Some, None, is_some, filter}
use Rattle.std.specs.Option.{option_map_or}
use Rattle.std.specs.List.{AllByRecursion, AllPairs}
use Rattle.std.specs.List.Sorted.{IsStrictlyIncreasing}
use Rattle.std.proofs.Common.{get_or}
use Rattle.std.proofs.lemmas.Bool.{eqb-true, eqb-false, eq-eqb, ne_eqb, leb-true, leb-false, ltb-true, ltb-false, false≢true, or_left, or_right}
use Rattle.std.proofs.lemmas.List.{take_all, at_drop_more, at_drop_all}
use Rattle.std.proofs.lemmas.List.Kept.{IsStrictlyIncreasing-filter, AllPairs-from_increasing}
use Rattle.std.proofs.lemmas.Map.Views.{any-filter_same}
use Rattle.md_world.specs.declared.Row.{Row}
use Rattle.md_world.proofs.Lookups.{by_test}
use Rattle.md_match.specs.Candidates.{RowSet, everything, smaller, smallest_from, smallest, union}
use Rattle.md_value.specs.Values.{is_same}
use Rattle.md_value.specs.Attrs.{text_content}
use Rattle.md_index.specs.declared.between.Probe.{Probe}
use Rattle.md_index.specs.Indexed.{lists, row_between, Adds}
use Rattle.md_index.proofs.Bools.{or_else, or_nothing}
use Rattle.md_plan.specs.declared.plan.Plan.{Plan}
use Rattle.md_plan.specs.Plans.{probe_set, plan_set}
use Rattle.md_plan.specs.FoundPlaces.{is_in, places_of, size_of, AreAll, IsFound}

-- ---- lists that rise

abbrev Rises : List ℕ → Type 0
Rises [] = Unit {0}
Rises (x ∷ xs) = AllByRecursion (λ y. x < y) xs × Rises xs

later : (x : ℕ) (xs : List ℕ) → ((j d : ℕ) → j < length xs → x < get_or xs j d) → AllByRecursion (λ y. x < y) xs
later x [] h = tt {0}
later x (y ∷ ys) h = (h 0 y (omega arith), later x ys (λ j d lt. h (suc j) d (omega arith)))

rises_pairs : (xs : List ℕ) → AllPairs (λ x y. x < y) xs → Rises xs
rises_pairs [] h = tt {0}
rises_pairs (x ∷ xs) h = (later x xs (λ j d lt. h 0 (suc j) d (omega arith) (omega arith)), rises_pairs xs (λ i j d lt within. h (suc i) (suc j) d (omega arith) (omega arith)))

rises : (xs : List ℕ) → IsStrictlyIncreasing xs → Rises xs
rises xs h = rises_pairs xs (AllPairs-from_increasing xs h)

both_false : (a b : Bool) → a ≡ false → b ≡ false → a || b ≡ false
both_false a b h k = rw (h, k) refl

absent : (x : ℕ) (xs : List ℕ) → AllByRecursion (λ y. x < y) xs → (p : ℕ) → p ≤ x → lists xs p ≡ false
absent x [] all p le = refl
absent x (y ∷ ys) all p le =
    let less : x < y = all.0 in
    both_false (eqb p y) (lists ys p) (ne_eqb p y (λ e. omega arith)) (absent x ys all.1 p le)

above : (x : ℕ) (xs : List ℕ) → AllByRecursion (λ y. x < y) xs → (p : ℕ) → lists xs p ≡ true → x < p
above x xs all p h =
    by_test (leb p x)
    (λ e. absurd (false≢true (sym (absent x xs all p (leb-true p x e)) ∙ h)))
    (λ e. leb-false p x e)

first : (x : ℕ) (xs : List ℕ) → lists (x ∷ xs) x ≡ true
first x xs = or_left (eqb x x) (lists xs x) (eq-eqb x x refl)

-- two lists that rise and have the same places are one
one_list : (xs ys : List ℕ) → Rises xs → Rises ys → ((p : ℕ) → lists xs p ≡ lists ys p) → xs ≡ ys
one_list [] [] r s same = refl
one_list [] (y ∷ ys) r s same = absurd (false≢true (same y ∙ first y ys))
one_list (x ∷ xs) [] r s same = absurd (false≢true (sym (same x) ∙ first x xs))
one_list (x ∷ xs) (y ∷ ys) r s same =
    by_test (eqb x y)
    (λ e.
    let is : x ≡ y = eqb-true x y e in
    let tails : (p : ℕ) → lists xs p ≡ lists ys p = λ p.
    by_test (eqb p x)
    (λ k.
    let at : p ≡ x = eqb-true p x k in
    absent x xs r.0 p (omega arith) ∙ sym (absent y ys s.0 p (omega arith)))
    (λ k.
    let other : eqb p y ≡ false = subst (λ z. eqb p z ≡ false) is k in
    sym (ap (λ b. b || lists xs p) k) ∙ same p ∙ ap (λ b. b || lists ys p) other) in
    ap (λ z. z ∷ xs) is ∙ ap (λ zs. y ∷ zs) (one_list xs ys r.1 s.1 tails))
    (λ e.
    let x_there : lists ys x ≡ true = or_else (eqb x y) (lists ys x) (sym (same x) ∙ first x xs) e in
    let other : eqb y x ≡ false = ne_eqb y x (λ k. eqb-false x y e (sym k)) in
    let y_there : lists xs y ≡ true = or_else (eqb y x) (lists xs y) (same y ∙ first y ys) other in
    let after : y < x = above y ys s.0 x x_there in
    let before : x < y = above x xs r.0 y y_there in
    absurd (omega arith))

-- ---- filters

fewer_pass : (f g : ℕ → Bool) → ((p : ℕ) → f p ≡ true → g p ≡ true) → (xs : List ℕ) → length (filter f xs) ≤ length (filter g xs)
fewer_pass f g imply [] = omega arith
fewer_pass f g imply (x ∷ xs) =
    let rest = fewer_pass f g imply xs in
    by_test (f x)
    (λ e. let k : g x ≡ true = imply x e in rw (e, k) (more (length (filter f xs)) (length (filter g xs)) rest))
    (λ e.
    by_test (g x)
    (λ k. rw (e, k) (less (length (filter f xs)) (length (filter g xs)) rest))
    (λ k. rw (e, k) rest))
  where
    more : (a b : ℕ) → a ≤ b → suc a ≤ suc b
    more a b h = omega arith

    less : (a b : ℕ) → a ≤ b → a ≤ suc b
    less a b h = omega arith

lists_filter : (f : ℕ → Bool) (xs : List ℕ) (p : ℕ) → lists (filter f xs) p ≡ f p && lists xs p
lists_filter f xs p = any-filter_same (eqb p) f (f p) (λ k e. ap f (sym (eqb-true p k e))) xs

passes_all : (f : ℕ → Bool) (all : List ℕ) → ((p : ℕ) → f p ≡ true → lists all p ≡ true) → (p : ℕ) → f p && lists all p ≡ f p
passes_all f all within p =
    by_test (f p)
    (λ e. rw (e, within p e) refl)
    (λ e. rw e refl)

module _ (all : List ℕ) (f : ℕ → Bool) (rising : IsStrictlyIncreasing all) (within : (p : ℕ) → f p ≡ true → lists all p ≡ true) (places : List ℕ) (upward : IsStrictlyIncreasing places) where
  pub whole_list : ((p : ℕ) → lists places p ≡ f p) → places ≡ filter f all
  whole_list same = one_list places (filter f all) (rises places upward) (rises (filter f all) (IsStrictlyIncreasing-filter f all rising)) (λ p. same p ∙ sym (lists_filter f all p ∙ passes_all f all within p))

-- places that pass are no more than all that pass
pub part_list : (all : List ℕ) (f : ℕ → Bool) → IsStrictlyIncreasing all → ((p : ℕ) → f p ≡ true → lists all p ≡ true) → (places : List ℕ) → IsStrictlyIncreasing places
    → ((p : ℕ) → lists places p ≡ true → f p ≡ true) → length places ≤ length (filter f all)
part_list all f rising within places upward some =
    let is : places ≡ filter (lists places) all = whole_list all (lists places) rising (λ p h. within p (some p h)) places upward (λ p. refl) in
    subst (λ n. n ≤ length (filter f all)) (ap length (sym is)) (fewer_pass (lists places) f some all)

-- ---- what was found

pub found_whole : (most : ℕ) (all : List ℕ) (f : ℕ → Bool) → IsStrictlyIncreasing all → ((p : ℕ) → f p ≡ true → lists all p ≡ true) → (places : List ℕ) → IsStrictlyIncreasing places
    → (whole : Bool) → Adds [] places whole f → whole ≡ true → length places ≤ most → IsFound most (filter f all) (Some places)
found_whole most all f rising within places upward whole adds is few =
    let same = whole_list all f rising within places upward (adds.all is) in
    (same, subst (λ xs. length xs ≤ most) same few)

pub found_more : (most : ℕ) (all : List ℕ) (f : ℕ → Bool) → IsStrictlyIncreasing all → ((p : ℕ) → f p ≡ true → lists all p ≡ true) → (places : List ℕ) → IsStrictlyIncreasing places
    → (whole : Bool) → Adds [] places whole f → most < length places → IsFound most (filter f all) None
found_more most all f rising within places upward whole adds more =
    let least : length places ≤ length (filter f all) = part_list all f rising within places upward adds.some in
    omega arith

-- the fewer of two, the first where they are as many
pub fewer_found : (most : ℕ) (xs ys : List ℕ) (a b : List ℕ) → IsFound most xs (Some a) → IsFound most ys (Some b) → IsFound most (cond (ltb (length ys) (length xs)) ys xs) (Some (cond (ltb (length b) (length a)) b a))
fewer_found most xs ys a b one two =
    rw (one.0, two.0)
    (by_test (ltb (length ys) (length xs))
    (λ e. rw e (refl, two.1))
    (λ e. rw e (refl, one.1)))

pub first_found : (most : ℕ) (xs ys : List ℕ) (a : List ℕ) → IsFound most xs (Some a) → IsFound most ys None → IsFound most (cond (ltb (length ys) (length xs)) ys xs) (Some a)
first_found most xs ys a one two =
    let few : length xs ≤ most = one.1 in
    let many : most < length ys = two in
    by_test (ltb (length ys) (length xs))
    (λ e. let less : length ys < length xs = ltb-true (length ys) (length xs) e in absurd (omega arith))
    (λ e. rw e one)

pub second_found : (most : ℕ) (xs ys : List ℕ) (r : Option (List ℕ)) → IsFound most xs None → IsFound most ys r → IsFound most (cond (ltb (length ys) (length xs)) ys xs) r
second_found most xs ys (Some b) one two =
    let many : most < length xs = one in
    let few : length ys ≤ most = two.1 in
    by_test (ltb (length ys) (length xs))
    (λ e. rw e two)
    (λ e. let least : length xs ≤ length ys = ltb-false (length ys) (length xs) e in absurd (omega arith))
second_found most xs ys None one two =
    by_test (ltb (length ys) (length xs))
    (λ e. rw e two)
    (λ e. rw e one)

-- ---- rows

pub everything_in : (rows : ℕ → Option Row) (p : ℕ) → is_some (rows p) ≡ is_in rows everything p
everything_in rows p = of_row (rows p)
  where
    of_row : (row : Option Row) → is_some row ≡ option_map_or everything row false
    of_row None = refl
    of_row (Some row) = refl

pub in_rows : (rows : ℕ → Option Row) (all : List ℕ) → AreAll rows all → (set : RowSet) (p : ℕ) → is_in rows set p ≡ true → lists all p ≡ true
in_rows rows all are set p h = are.listed p ∙ of_row (rows p) h
  where
    of_row : (row : Option Row) → option_map_or set row false ≡ true → is_some row ≡ true
    of_row None h = h
    of_row (Some row) h = refl

pub union_in : (rows : ℕ → Option Row) (set : RowSet) (sets : List RowSet) (p : ℕ) → is_in rows (union (set ∷ sets)) p ≡ is_in rows set p || is_in rows (union sets) p
union_in rows set sets p = of_row (rows p)
  where
    of_row : (row : Option Row) → option_map_or (union (set ∷ sets)) row false ≡ option_map_or set row false || option_map_or (union sets) row false
    of_row None = refl
    of_row (Some row) = refl

pub none_in : (rows : ℕ → Option Row) (p : ℕ) → is_in rows (union []) p ≡ false
none_in rows p = of_row (rows p)
  where
    of_row : (row : Option Row) → option_map_or (union []) row false ≡ false
    of_row None = refl
    of_row (Some row) = refl

-- the places of the smaller set
pub smaller_places : (rows : ℕ → Option Row) (all : List ℕ) (a b : RowSet) → cond (ltb (length (places_of rows all b)) (length (places_of rows all a))) (places_of rows all b) (places_of rows all a) ≡ places_of rows all (smaller (size_of rows all) a b)
smaller_places rows all a b =
    by_test (ltb (length (places_of rows all b)) (length (places_of rows all a)))
    (λ e. rw e refl)
    (λ e. rw e refl)

-- ---- plans

pub text_none : (rows : ℕ → Option Row) (all : List ℕ) (probe : Probe) → is_same probe.name text_content ≡ true → places_of rows all (probe_set probe) ≡ []
text_none rows [] probe is = refl
text_none rows (p ∷ all) probe is =
    let off : is_in rows (probe_set probe) p ≡ false = of_row (rows p) in
    rw off (text_none rows all probe is)
  where
    of_row : (row : Option Row) → option_map_or (probe_set probe) row false ≡ false
    of_row None = refl
    of_row (Some row) = ap (λ b. not b && row_between probe (Some row)) is

pub between_in : (rows : ℕ → Option Row) (probe : Probe) → is_same probe.name text_content ≡ false → (p : ℕ) → row_between probe (rows p) ≡ is_in rows (probe_set probe) p
between_in rows probe other p = of_row (rows p)
  where
    of_row : (row : Option Row) → row_between probe row ≡ option_map_or (probe_set probe) row false
    of_row None = refl
    of_row (Some row) = sym (ap (λ b. not b && row_between probe (Some row)) other)

module _ (size : RowSet → ℕ) where
  pub least_none : (plans : List Plan) → length plans < 1 → everything ≡ smallest size (map (plan_set size) plans)
  least_none [] h = refl
  least_none (p ∷ plans) h = absurd (omega (arith, h))

  pub least_begun : (plans : List Plan) (p : Plan) → 1 ≤ length plans → p ≡ get_or plans 0 p
      → smallest_from size (plan_set size p) (map (plan_set size) (drop 0 (take (length plans - 1) (drop 1 plans)))) ≡ smallest size (map (plan_set size) plans)
  least_begun [] p h is = absurd (omega (arith, h))
  least_begun (q ∷ plans) p h is =
      let whole : take (length (q ∷ plans) - 1) (drop 1 (q ∷ plans)) ≡ plans = take_all (length (q ∷ plans) - 1) plans (omega arith) in
      ap (λ rest. smallest_from size (plan_set size p) (map (plan_set size) rest)) whole ∙ ap (λ r. smallest_from size (plan_set size r) (map (plan_set size) plans)) is

  pub least_more : (others : List Plan) (i : ℕ) (p : Plan) (s goal : RowSet) → i < length others → p ≡ get_or others i p
      → smallest_from size s (map (plan_set size) (drop i others)) ≡ goal → smallest_from size (smaller size s (plan_set size p)) (map (plan_set size) (drop (i + 1) others)) ≡ goal
  least_more others i p s goal h is so_far =
      ap (λ q. smallest_from size (smaller size s (plan_set size q)) (map (plan_set size) (drop (i + 1) others))) is
      ∙ sym (at_drop_more (λ (left : List Plan). smallest_from size s (map (plan_set size) left)) others i p h) ∙ so_far

  pub least_end : (others : List Plan) (i : ℕ) (s goal : RowSet) → length others ≤ i → smallest_from size s (map (plan_set size) (drop i others)) ≡ goal → s ≡ goal
  least_end others i s goal h so_far = sym (at_drop_all (λ (left : List Plan). smallest_from size s (map (plan_set size) left)) others i h) ∙ so_far

pub found_lists : (rows : ℕ → Option Row) (all : List ℕ) → AreAll rows all → (set : RowSet) (found : List ℕ) → found ≡ places_of rows all set → (p : ℕ) → lists found p ≡ is_in rows set p
found_lists rows all are set found is p = ap (λ xs. lists xs p) is ∙ lists_filter (is_in rows set) all p ∙ passes_all (is_in rows set) all (in_rows rows all are set) p

module _ (rows : ℕ → Option Row) (all : List ℕ) (are : AreAll rows all) where
  pub union_step : (plans : List Plan) (i : ℕ) (q : Plan) (p : ℕ) → i < length plans → q ≡ get_or plans i q
      → is_in rows (union (map (plan_set (size_of rows all)) (drop i plans))) p ≡ is_in rows (plan_set (size_of rows all) q) p || is_in rows (union (map (plan_set (size_of rows all)) (drop (i + 1) plans))) p
  union_step plans i q p h is =
      let f = plan_set (size_of rows all) in
      at_drop_more (λ (left : List Plan). is_in rows (union (map f left)) p) plans i q h
      ∙ ap (λ r. is_in rows (union (f r ∷ map f (drop (i + 1) plans))) p) (sym is)
      ∙ union_in rows (f q) (map f (drop (i + 1) plans)) p

  pub union_more : (plans : List Plan) (i : ℕ) (q : Plan) (out more found : List ℕ) (p : ℕ) → i < length plans → q ≡ get_or plans i q → found ≡ places_of rows all (plan_set (size_of rows all) q)
      → lists more p ≡ lists out p || lists found p → lists out p || is_in rows (union (map (plan_set (size_of rows all)) (drop i plans))) p ≡ is_in rows (union (map (plan_set (size_of rows all)) plans)) p
      → lists more p || is_in rows (union (map (plan_set (size_of rows all)) (drop (i + 1) plans))) p ≡ is_in rows (union (map (plan_set (size_of rows all)) plans)) p
  union_more plans i q out more found p h is same joined so_far =
      let f = plan_set (size_of rows all) in
      let rest = is_in rows (union (map f (drop (i + 1) plans))) p in
      ap (λ b. b || rest) (joined ∙ ap (λ b. lists out p || b) (found_lists rows all are (f q) found same p))
      ∙ or_same (lists out p) (is_in rows (f q) p) rest
      ∙ ap (λ b. lists out p || b) (sym (union_step plans i q p h is)) ∙ so_far
    where
      or_same : (a b c : Bool) → (a || b) || c ≡ a || (b || c)
      or_same true b c = refl
      or_same false b c = refl

  -- a member has too many, and so has the union
  pub union_over : (plans : List Plan) (i : ℕ) (q : Plan) (out : List ℕ) (most : ℕ) → i < length plans → q ≡ get_or plans i q
      → ((p : ℕ) → lists out p || is_in rows (union (map (plan_set (size_of rows all)) (drop i plans))) p ≡ is_in rows (union (map (plan_set (size_of rows all)) plans)) p)
      → most < length (places_of rows all (plan_set (size_of rows all) q)) → most < length (places_of rows all (union (map (plan_set (size_of rows all)) plans)))
  union_over plans i q out most h is so_far over =
      let f = plan_set (size_of rows all) in
      let least : length (places_of rows all (f q)) ≤ length (places_of rows all (union (map f plans))) =
      fewer_pass (is_in rows (f q)) (is_in rows (union (map f plans)))
      (λ p k.
      sym (so_far p) ∙ or_right (lists out p) (is_in rows (union (map f (drop i plans))) p)
      (union_step plans i q p h is ∙ or_left (is_in rows (f q) p) (is_in rows (union (map f (drop (i + 1) plans))) p) k)) all in
      omega arith

  pub union_end : (plans : List Plan) (i : ℕ) (out : List ℕ) → length plans ≤ i
      → ((p : ℕ) → lists out p || is_in rows (union (map (plan_set (size_of rows all)) (drop i plans))) p ≡ is_in rows (union (map (plan_set (size_of rows all)) plans)) p)
      → (p : ℕ) → lists out p ≡ is_in rows (union (map (plan_set (size_of rows all)) plans)) p
  union_end plans i out h so_far p =
      let f = plan_set (size_of rows all) in
      sym (or_nothing (lists out p)) ∙ ap (λ b. lists out p || b) (sym (at_drop_all (λ (left : List Plan). is_in rows (union (map f left)) p) plans i h ∙ none_in rows p)) ∙ so_far p

pub all_pass : (f : ℕ → Bool) (all : List ℕ) → length (filter f all) ≤ length all
all_pass f [] = omega arith
all_pass f (x ∷ xs) =
    let rest = all_pass f xs in
    by_test (f x)
    (λ e. rw e (more (length (filter f xs)) (length xs) rest))
    (λ e. rw e (less (length (filter f xs)) (length xs) rest))
  where
    more : (a b : ℕ) → a ≤ b → suc a ≤ suc b
    more a b h = omega arith

    less : (a b : ℕ) → a ≤ b → a ≤ suc b
    less a b h = omega arith
