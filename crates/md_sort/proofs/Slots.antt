-- Rows under slots: what an edit of the slots makes of the rows.
use Rattle.std.proofs.Common.{◌≡◌, ◌≢◌, ℕ, zero, suc, ◌+◌, ◌<◌, ◌≤◌, Bool, true, false, not, cond, List, [], ◌∷◌, ◌++◌, length, take, insert, get_or, refl, sym, ◌∙◌, ap, subst, arith}
use Rattle.std.specs.Prelude.{Option, None, Some, is_some, slice_get}
use Rattle.std.specs.List.{AllByRecursion, prefix_len, remove, list_any}
use Rattle.std.specs.List.Sorted.{IsPermutation, IsPartitionedBy}
use Rattle.std.proofs.Math.Numerals.{one-add}
use Rattle.std.proofs.lemmas.List.Sorted.{IsPermutation-refl, IsPermutation-sym, IsPermutation-trans, IsPermutation-cons, IsPermutation-to_front, list_any-IsPermutation}
use Rattle.std.specs.Option.{option_map_or}
use Rattle.std.proofs.lemmas.Option.{slice_get_within}
use Rattle.std.proofs.lemmas.Map.Keys.{IsDistinct-cons, IsDistinct-head, IsDistinct-tail}
use Rattle.std.proofs.lemmas.Bool.{false≢true}
use Rattle.md_value.specs.Values.{PathBytes, is_same, is_before}
use Rattle.md_value.proofs.Orders.{same_refl, same_exact}
use Rattle.md_world.specs.declared.Row.{Row}
use Rattle.md_world.specs.declared.order.SortKey.{SortKey}
use Rattle.md_world.specs.Tables.{has_path, without_path, same_row, has_at}
use Rattle.md_world.specs.Orders.{row_before, IsOrdered, IsInOrder, with_placed}
use Rattle.md_world.proofs.Lookups.{by_test, row_exact}
use Rattle.md_sort.specs.Kept.{PathsDiffer, AreKept}
use Rattle.md_sort.specs.Slots.{row_or_empty, rows_at, AllHeld, passes, AreIndexed}
use Rattle.md_sort.proofs.Totals.{row_not_back}
use Rattle.md_sort.proofs.Placed.{AreApart, all_at, differ_permuted, apart_without, apart_from, inserted, placed_ordered, placed_permuted, removed, without_kept, none_kept, ordered_filter, before_path}
use Rattle.md_sort.proofs.Alone.{of_one, row_refl, is_alone, filter_permuted, apart_permuted}

passes_is : (test : Row → Bool) (o : Option Row) → is_some o ≡ true → passes test o ≡ test (row_or_empty o)
passes_is test None h = absurd (false≢true h)
passes_is test (Some row) h = refl

held_is : (o : Option Row) → is_some o ≡ true → o ≡ Some (row_or_empty o)
held_is None h = absurd (false≢true h)
held_is (Some row) h = refl

all_inserted : {X : Type 0} (P : X → Type 0) (xs : List X) (i : ℕ) (x : X) → i ≤ length xs → P x → AllByRecursion P xs → AllByRecursion P (insert xs i x)
all_inserted P [] zero x le p h = (p, tt)
all_inserted P [] (suc i) x le p h = absurd (omega arith)
all_inserted P (y ∷ xs) zero x le p h = (p, h)
all_inserted P (y ∷ xs) (suc i) x le p h = (h.0, all_inserted P xs i x (omega arith) p h.1)

all_removed : {X : Type 0} (P : X → Type 0) (xs : List X) (i : ℕ) → AllByRecursion P xs → i < length xs → AllByRecursion P (remove xs i)
all_removed P [] i h lt = absurd (omega arith)
all_removed P (y ∷ xs) zero h lt = h.1
all_removed P (y ∷ xs) (suc i) h lt = (h.0, all_removed P xs i h.1 (omega arith))

module _ (find : ℕ → Option Row) where
  pub length_rows : (slots : List ℕ) → length (rows_at find slots) ≡ length slots
  length_rows [] = refl
  length_rows (s ∷ slots) = ap suc (length_rows slots)

  pub prefix_slots : (test : Row → Bool) (slots : List ℕ) → AllHeld find slots → prefix_len (λ slot. passes test (find slot)) slots ≡ prefix_len test (rows_at find slots)
  prefix_slots test [] h = refl
  prefix_slots test (s ∷ slots) h = rw (passes_is test (find s) h.0) (ap (λ n. cond (test (row_or_empty (find s))) (1 + n) 0) (prefix_slots test slots h.1))

  row_there : (slots : List ℕ) (j d : ℕ) (e : Row) → j < length slots → get_or (rows_at find slots) j e ≡ row_or_empty (find (get_or slots j d))
  row_there [] j d e lt = absurd (omega arith)
  row_there (s ∷ slots) zero d e lt = refl
  row_there (s ∷ slots) (suc j) d e lt = row_there slots j d e (omega arith)

  passes_there : (test : Row → Bool) (slots : List ℕ) (j d : ℕ) (e : Row) → AllHeld find slots → j < length slots → passes test (find (get_or slots j d)) ≡ test (get_or (rows_at find slots) j e)
  passes_there test slots j d e h lt = passes_is test (find (get_or slots j d)) (all_at _ slots j d h lt) ∙ ap test (sym (row_there slots j d e lt))

  -- slots are parted as their rows are
  pub parted_slots : (test : Row → Bool) (slots : List ℕ) → AllHeld find slots → IsPartitionedBy test (rows_at find slots) → IsPartitionedBy (λ slot. passes test (find slot)) slots
  parted_slots test slots h parts i j d le lt e =
      let none : Row = row_or_empty None in
      let long = length_rows slots in
      let later : test (get_or (rows_at find slots) j none) ≡ true = sym (passes_there test slots j d none h lt) ∙ e in
      passes_there test slots i d none h (omega arith) ∙ parts i j none le (omega (arith, long)) later

  pub some_row : (slots : List ℕ) (i s : ℕ) → AllHeld find slots → slice_get slots i ≡ Some s → slice_get (rows_at find slots) i ≡ find s
  some_row [] i s held h = cc
  some_row (k ∷ slots) zero s held h =
      let same : k ≡ s = cc in
      subst (λ t. Some (row_or_empty (find k)) ≡ find t) same (sym (held_is (find k) held.0))
  some_row (k ∷ slots) (suc i) s held h = some_row slots i s held.1 h

  rows_inserted : (slots : List ℕ) (i s : ℕ) → i ≤ length slots → rows_at find (insert slots i s) ≡ insert (rows_at find slots) i (row_or_empty (find s))
  rows_inserted [] zero s le = refl
  rows_inserted [] (suc i) s le = absurd (omega arith)
  rows_inserted (k ∷ slots) zero s le = refl
  rows_inserted (k ∷ slots) (suc i) s le = ap (λ rest. row_or_empty (find k) ∷ rest) (rows_inserted slots i s (omega arith))

  rows_removed : (slots : List ℕ) (i : ℕ) → i < length slots → rows_at find (remove slots i) ≡ remove (rows_at find slots) i
  rows_removed [] i lt = absurd (omega arith)
  rows_removed (k ∷ slots) zero lt = refl
  rows_removed (k ∷ slots) (suc i) lt = ap (λ rest. row_or_empty (find k) ∷ rest) (rows_removed slots i (omega arith))

-- the slots have the same rows before and after
abbrev Stay : (ℕ → Option Row) → (ℕ → Option Row) → List ℕ → Type 0
Stay find after slots = AllByRecursion (λ slot. after slot ≡ find slot) slots

module _ (find after : ℕ → Option Row) where
  rows_stay : (slots : List ℕ) → Stay find after slots → rows_at after slots ≡ rows_at find slots
  rows_stay [] h = refl
  rows_stay (s ∷ slots) h =
      let first = ap row_or_empty h.0 in
      let rest = rows_stay slots h.1 in cc

  held_stay : (slots : List ℕ) → Stay find after slots → AllHeld find slots → AllHeld after slots
  held_stay [] h held = tt
  held_stay (s ∷ slots) h held = (ap is_some h.0 ∙ held.0, held_stay slots h.1 held.1)

  stay_fresh : (slot : ℕ) → find slot ≡ None → ((other : ℕ) → other ≢ slot → after other ≡ find other) → (slots : List ℕ) → AllHeld find slots → Stay find after slots
  stay_fresh slot none others [] held = tt
  stay_fresh slot none others (s ∷ slots) held =
      (others s (λ same. false≢true (sym (ap (λ o. is_some o) (ap find same ∙ none)) ∙ held.0)), stay_fresh slot none others slots held.1)

  stay_gone : (slot : ℕ) (row : Row) → find slot ≡ Some row → ((other : ℕ) → other ≢ slot → after other ≡ find other) → (slots : List ℕ) → AreApart row.path (rows_at find slots) → Stay find after slots
  stay_gone slot row there others [] apart = tt
  stay_gone slot row there others (s ∷ slots) apart = (
    others s (λ same. false≢true (sym apart.0 ∙ ap (λ o. is_same row.path (row_or_empty o).path) (ap find same ∙ there) ∙ same_refl row.path)),
    stay_gone slot row there others slots apart.1,
  )

not_itself : (order : List SortKey) (row : Row) → row_before order row row ≡ false
not_itself order row = by_test (row_before order row row) (λ b. absurd (false≢true (sym (row_not_back order row row b) ∙ b))) (λ b. b)

all_there : {X : Type 0} (P : X → Type 0) (xs : List X) (i : ℕ) (x : X) → AllByRecursion P xs → slice_get xs i ≡ Some x → P x
all_there P [] i x h e = cc
all_there P (y ∷ xs) zero x h e = let same : y ≡ x = cc in subst P same h.0
all_there P (y ∷ xs) (suc i) x h e = all_there P xs i x h.1 e

-- so many rows stand before a row as its place says
pub own_at : (order : List SortKey) (row : Row) (rows : List Row) (i : ℕ) → IsOrdered order rows → slice_get rows i ≡ Some row → prefix_len (λ other. row_before order other row) rows ≡ i
own_at order row [] i h e = cc
own_at order row (w ∷ rows) zero h e =
    let is : w ≡ row = cc in
    let itself : row_before order w row ≡ false = subst (λ v. row_before order v row ≡ false) (sym is) (not_itself order row) in
    rw itself refl
own_at order row (w ∷ rows) (suc i) h e =
    let before = all_there (λ v. row_before order w v ≡ true) rows i row h.0 e in
    rw (before, one-add) (ap suc (own_at order row rows i h.1 e))

-- a row among rows in order is found at its own place
pub own_place : (order : List SortKey) (row : Row) (rows : List Row) → IsOrdered order rows → list_any (same_row row) rows ≡ true → slice_get rows (prefix_len (λ other. row_before order other row) rows) ≡ Some row
own_place order row [] h e = absurd (false≢true e)
own_place order row (w ∷ rows) h e =
    by_test (same_row row w)
    (λ k.
    let is : row ≡ w = row_exact row w k in
    let itself : row_before order w row ≡ false = subst (λ v. row_before order v row ≡ false) is (not_itself order row) in
    rw itself (ap (λ v. Some v) (sym is)))
    (λ k.
    let rest = rw k at e in
    let before = of_one (λ v. row_before order w v ≡ true) row rows h.0 rest in
    rw (before, one-add) (own_place order row rows h.1 rest))

-- a row at a place is among the rows
pub there_among : (rows : List Row) (i : ℕ) (row : Row) → slice_get rows i ≡ Some row → list_any (same_row row) rows ≡ true
there_among [] i row h = cc
there_among (w ∷ rows) zero row h =
    let is : w ≡ row = cc in
    rw (subst (λ v. same_row row v ≡ true) (sym is) (row_refl row)) refl
there_among (w ∷ rows) (suc i) row h = by_test (same_row row w) (λ e. rw e refl) (λ e. rw e (there_among rows i row h))

module _ (order : List SortKey) (find after : ℕ → Option Row) (paths places : List ℕ) (indexed : AreIndexed order find paths places) (slot : ℕ) (others : (other : ℕ) → other ≢ slot → after other ≡ find other) where
  paths_differ : PathsDiffer (rows_at find paths)
  paths_differ = differ_permuted _ _ (IsPermutation-sym _ _ indexed.same) indexed.kept.distinct

  module _ (row : Row) (there : find slot ≡ Some row) where
    out_of : (slots : List ℕ) (i : ℕ) → PathsDiffer (rows_at find slots) → i < length slots → has_at (rows_at find slots) i row.path ≡ true → Stay find after (remove slots i) × (rows_at after (remove slots i) ≡ without_path (rows_at find slots) row.path)
    out_of slots i differ lt has =
        let left : rows_at find (remove slots i) ≡ without_path (rows_at find slots) row.path = rows_removed find slots i lt ∙ removed row.path (rows_at find slots) i differ has in
        let stay = stay_gone find after slot row there others (remove slots i) (subst (AreApart row.path) (sym left) (apart_without row.path (rows_at find slots))) in
        (stay, rows_stay find after (remove slots i) stay ∙ left)

    -- A row's slot is taken out of both lists.
    pub out_indexed : (i j : ℕ) → i < length paths → j < length places → has_at (rows_at find paths) i row.path ≡ true → has_at (rows_at find places) j row.path ≡ true
        → AreIndexed order after (remove paths i) (remove places j) × (rows_at after (remove places j) ≡ without_path (rows_at find places) row.path) × (rows_at after (remove paths i) ≡ without_path (rows_at find paths) row.path)
    out_indexed i j lt_i lt_j has_i has_j =
        let test = λ (other : Row). not (is_same other.path row.path) in
        let path = out_of paths i paths_differ lt_i has_i in
        let place = out_of places j indexed.kept.distinct lt_j has_j in (
          record {
            paths_held = held_stay find after (remove paths i) path.0 (all_removed _ paths i indexed.paths_held lt_i);
            places_held = held_stay find after (remove places j) place.0 (all_removed _ places j indexed.places_held lt_j);
            by_path = subst (IsOrdered []) (sym path.1) (ordered_filter [] test (rows_at find paths) indexed.by_path);
            kept = subst (AreKept order) (sym place.1) (without_kept order row.path (rows_at find places) indexed.kept);
            same = subst (λ xs. IsPermutation xs (rows_at after (remove places j))) (sym path.1) (subst (IsPermutation (without_path (rows_at find paths) row.path)) (sym place.1) (filter_permuted test (rows_at find paths) (rows_at find places) paths_differ indexed.same));
          },
          place.1,
          path.1,
        )

  module _ (row : Row) (none : find slot ≡ None) (there : after slot ≡ Some row) where
    into : (keys : List SortKey) (slots : List ℕ) (i : ℕ) → AllHeld find slots → IsOrdered keys (rows_at find slots) → AreApart row.path (rows_at find slots) → i ≤ length slots → i ≡ prefix_len (λ other. row_before keys other row) (rows_at find slots)
        → AllHeld after (insert slots i slot) × (rows_at after (insert slots i slot) ≡ with_placed keys row (rows_at find slots))
    into keys slots i held ordered apart le is =
        let stay = stay_fresh find after slot none others slots held in (
          all_inserted _ slots i slot le (ap (λ o. is_some o) there) (held_stay find after slots stay held),
          rows_inserted after slots i slot le
              ∙ (λ k. insert (rows_stay find after slots stay k) (is k) (row_or_empty (there k)))
              ∙ inserted keys row (rows_at find slots) apart ordered,
        )

    -- A row's slot is put into both lists.
    pub in_indexed : has_path (rows_at find places) row.path ≡ false → (i j : ℕ) → i ≤ length paths → j ≤ length places
        → i ≡ prefix_len (λ other. row_before [] other row) (rows_at find paths) → j ≡ prefix_len (λ other. row_before order other row) (rows_at find places)
        → AreIndexed order after (insert paths i slot) (insert places j slot) × (rows_at after (insert places j slot) ≡ with_placed order row (rows_at find places))
    in_indexed absent i j le_i le_j is_i is_j =
        let apart = apart_from row.path (rows_at find places) absent in
        let apart_paths = apart_permuted row (rows_at find places) (rows_at find paths) (IsPermutation-sym _ _ indexed.same) apart in
        let path = into [] paths i indexed.paths_held indexed.by_path apart_paths le_i is_i in
        let place = into order places j indexed.places_held indexed.kept.ordered apart le_j is_j in
        let moved = placed_permuted order row (rows_at find places) in (
          record {
            paths_held = path.0;
            places_held = place.0;
            by_path = subst (IsOrdered []) (sym path.1) (placed_ordered [] row (rows_at find paths) apart_paths indexed.by_path);
            kept = subst (AreKept order) (sym place.1) (record {
              distinct = differ_permuted _ _ moved (IsDistinct-cons _ row (rows_at find places) apart indexed.kept.distinct);
              ordered = placed_ordered order row (rows_at find places) apart indexed.kept.ordered;
            });
            same = subst (λ xs. IsPermutation xs (rows_at after (insert places j slot))) (sym path.1) (subst (IsPermutation (with_placed [] row (rows_at find paths))) (sym place.1)
                (IsPermutation-trans _ _ _ (IsPermutation-sym _ _ (placed_permuted [] row (rows_at find paths))) (IsPermutation-trans _ _ _ (IsPermutation-cons row _ _ indexed.same) moved)));
          },
          place.1,
        )

-- whether there is a row of a path does not depend on the order
pub has_permuted : (p : PathBytes) (xs ys : List Row) → IsPermutation xs ys → has_path xs p ≡ has_path ys p
has_permuted p xs ys moved = by_any xs ∙ list_any-IsPermutation (λ (row : Row). is_same row.path p) xs ys moved ∙ sym (by_any ys)
  where
    by_any : (rows : List Row) → has_path rows p ≡ list_any (λ (row : Row). is_same row.path p) rows
    by_any [] = refl
    by_any (r ∷ rows) = by_test (is_same r.path p) (λ e. rw e refl) (λ e. rw e (by_any rows))

pub has_its_path : (rows : List Row) (i : ℕ) (p : PathBytes) (row : Row) → slice_get rows i ≡ Some row → has_at rows i p ≡ true → row.path ≡ p
has_its_path [] i p row h has = cc
has_its_path (r ∷ rows) zero p row h has = let same : r ≡ row = cc in ap (λ (w : Row). w.path) (sym same) ∙ same_exact r.path p has
has_its_path (r ∷ rows) (suc i) p row h has = has_its_path rows i p row h has

has_own : (rows : List Row) (i : ℕ) (row : Row) → slice_get rows i ≡ Some row → has_at rows i row.path ≡ true
has_own rows i row there = ap (λ o. option_map_or (λ (w : Row). is_same w.path row.path) o false) there ∙ same_refl row.path

module _ (order : List SortKey) (find : ℕ → Option Row) (paths places : List ℕ) (indexed : AreIndexed order find paths places) where
  -- the row that stands at a place by path is found at its own place in the order
  pub own_in : (i n : ℕ) (row : Row) → slice_get (rows_at find paths) i ≡ Some row → n ≡ prefix_len (λ other. row_before order other row) (rows_at find places)
      → (slice_get (rows_at find places) n ≡ slice_get (rows_at find paths) i) × (n < length places)
  own_in i n row there is =
      let among = sym (list_any-IsPermutation (same_row row) (rows_at find paths) (rows_at find places) indexed.same) ∙ there_among (rows_at find paths) i row there in
      let own = ap (slice_get (rows_at find places)) is ∙ own_place order row (rows_at find places) indexed.kept.ordered among in
      let long = length_rows find places in
      let within = slice_get_within (rows_at find places) n row own in
      (own ∙ sym there, omega (arith, long))

  -- with no keys the rows by path are those in the order
  pub same_by_path : order ≡ [] → rows_at find paths ≡ rows_at find places
  same_by_path none =
      is_alone [] (rows_at find paths) (rows_at find paths) (rows_at find places)
      record { same_rows = IsPermutation-refl (rows_at find paths); ascends = indexed.by_path }
      record { same_rows = indexed.same; ascends = subst (λ keys. IsOrdered keys (rows_at find places)) none indexed.kept.ordered }

  -- A slot is taken out of both lists, and its row from under it.
  pub taken_out : (after : ℕ → Option Row) (slot : ℕ) → ((other : ℕ) → other ≢ slot → after other ≡ find other) → (i j : ℕ) → slice_get paths i ≡ Some slot → j < length places → slice_get (rows_at find places) j ≡ slice_get (rows_at find paths) i
      → AreIndexed order after (remove paths i) (remove places j)
      × ((p : PathBytes) → has_at (rows_at find paths) i p ≡ true → (rows_at after (remove places j) ≡ without_path (rows_at find places) p) × (rows_at after (remove paths i) ≡ without_path (rows_at find paths) p))
  taken_out after slot others i j at lt_j same =
      let row = row_or_empty (find slot) in
      let there : slice_get (rows_at find paths) i ≡ find slot = some_row find paths i slot indexed.paths_held at in
      let held : find slot ≡ Some row = held_is (find slot) (all_there (λ s. is_some (find s) ≡ true) paths i slot indexed.paths_held at) in
      let path_has = has_own (rows_at find paths) i row (there ∙ held) in
      let place_has = has_own (rows_at find places) j row (same ∙ there ∙ held) in
      let out = out_indexed order find after paths places indexed slot others row held i j (slice_get_within paths i slot at) lt_j path_has place_has in (
        out.0,
        (λ p has.
            let its = has_its_path (rows_at find paths) i p row (there ∙ held) has in
            (out.1 ∙ ap (without_path (rows_at find places)) its, out.2 ∙ ap (without_path (rows_at find paths)) its)),
      )

  -- where a row would stand by path, it would stand with no keys
  pub placed_by_path : (row : Row) (i : ℕ) → i ≡ prefix_len (λ (other : Row). is_before other.path row.path) (rows_at find paths) → order ≡ [] → i ≡ prefix_len (λ other. row_before [] other row) (rows_at find places)
  placed_by_path row i is none = is ∙ before_path row (rows_at find paths) ∙ ap (prefix_len (λ other. row_before [] other row)) (same_by_path none)

  -- so does a row that is there
  pub own_by_path : (row : Row) (i : ℕ) → slice_get (rows_at find paths) i ≡ Some row → order ≡ [] → i ≡ prefix_len (λ other. row_before [] other row) (rows_at find places)
  own_by_path row i there none = sym (own_at [] row (rows_at find paths) i indexed.by_path there) ∙ ap (prefix_len (λ other. row_before [] other row)) (same_by_path none)

  -- Slots that lead to the same rows in another order are an index by that order.
  pub resorted : (new : List SortKey) (moved : List ℕ) → AllHeld find moved → IsPermutation (rows_at find paths) (rows_at find moved) → IsOrdered new (rows_at find moved)
      → AreIndexed new find paths moved × IsInOrder new (rows_at find places) (rows_at find moved)
  resorted new moved held rows ordered =
      let again = IsPermutation-trans _ _ _ (IsPermutation-sym _ _ indexed.same) rows in (
        record {
          paths_held = indexed.paths_held;
          places_held = held;
          by_path = indexed.by_path;
          kept = record { distinct = differ_permuted _ _ again indexed.kept.distinct; ordered = ordered };
          same = rows;
        },
        record { same_rows = again; ascends = ordered },
      )

-- a row that is added at its place
pub added : (order : List SortKey) (find : ℕ → Option Row) (slots : List ℕ) (slot i : ℕ) → AllHeld find slots → IsOrdered order (rows_at find slots) → is_some (find slot) ≡ true → has_path (rows_at find slots) (row_or_empty (find slot)).path ≡ false
    → i ≤ length slots → i ≡ prefix_len (λ other. row_before order other (row_or_empty (find slot))) (rows_at find slots)
    → AllHeld find (insert slots i slot) × IsOrdered order (rows_at find (insert slots i slot)) × (rows_at find (insert slots i slot) ≡ with_placed order (row_or_empty (find slot)) (rows_at find slots))
added order find slots slot i held ordered some absent le is =
    let row = row_or_empty (find slot) in
    let apart = apart_from row.path (rows_at find slots) absent in
    let placed = rows_inserted find slots i slot le ∙ ap (λ n. insert (rows_at find slots) n row) is ∙ inserted order row (rows_at find slots) apart ordered in
    (all_inserted _ slots i slot le some held, subst (IsOrdered order) (sym placed) (placed_ordered order row (rows_at find slots) apart ordered), placed)

module _ (find : ℕ → Option Row) where
  rows_more : (slots : List ℕ) (i slot : ℕ) → slice_get slots i ≡ Some slot → rows_at find (take (i + 1) slots) ≡ rows_at find (take i slots) ++ row_or_empty (find slot) ∷ []
  rows_more [] i slot e = cc
  rows_more (s ∷ slots) zero slot e = let same : s ≡ slot = cc in ap (λ t. row_or_empty (find t) ∷ []) same
  rows_more (s ∷ slots) (suc i) slot e = let next : suc i + 1 ≡ suc (i + 1) = omega arith in rw next (ap (λ rest. row_or_empty (find s) ∷ rest) (rows_more slots i slot e))

  -- the next row has none of the paths so far
  fresh : (slots : List ℕ) (i slot : ℕ) → PathsDiffer (rows_at find slots) → slice_get slots i ≡ Some slot → has_path (rows_at find (take i slots)) (row_or_empty (find slot)).path ≡ false
  fresh [] i slot differ e = cc
  fresh (s ∷ slots) zero slot differ e = refl
  fresh (s ∷ slots) (suc i) slot differ e =
      let row = row_or_empty (find slot) in
      let rest = fresh slots i slot (IsDistinct-tail _ _ _ differ) e in
      let other : is_same (row_or_empty (find s)).path row.path ≡ false = all_rows _ slots i slot (IsDistinct-head _ _ _ differ) e in
      rw other rest
    where
      all_rows : (P : Row → Type 0) (slots : List ℕ) (i slot : ℕ) → AllByRecursion P (rows_at find slots) → slice_get slots i ≡ Some slot → P (row_or_empty (find slot))
      all_rows P [] i slot h e = cc
      all_rows P (s ∷ slots) zero slot h e = let same : s ≡ slot = cc in subst (λ t. P (row_or_empty (find t))) same h.0
      all_rows P (s ∷ slots) (suc i) slot h e = all_rows P slots i slot h.1 e

  -- the rows so far with one more
  pub sorted_more : (order : List SortKey) (slots sorted : List ℕ) (i slot : ℕ) → PathsDiffer (rows_at find slots) → slice_get slots i ≡ Some slot → IsPermutation (rows_at find (take i slots)) (rows_at find sorted)
      → (has_path (rows_at find sorted) (row_or_empty (find slot)).path ≡ false) × IsPermutation (rows_at find (take (i + 1) slots)) (with_placed order (row_or_empty (find slot)) (rows_at find sorted))
  sorted_more order slots sorted i slot differ e moved =
      let row = row_or_empty (find slot) in (
        sym (has_permuted row.path _ _ moved) ∙ fresh slots i slot differ e,
        subst (λ rows. IsPermutation rows (with_placed order row (rows_at find sorted))) (sym (rows_more slots i slot e))
            (IsPermutation-trans _ _ _ (IsPermutation-to_front _ row) (IsPermutation-trans _ _ _ (IsPermutation-cons row _ _ moved) (placed_permuted order row (rows_at find sorted)))),
      )

pub none_indexed : (order : List SortKey) (find : ℕ → Option Row) → AreIndexed order find [] []
none_indexed order find = record { paths_held = tt; places_held = tt; by_path = tt; kept = none_kept order; same = IsPermutation-refl [] }
