-- The places that have a row, in path order.
use Rattle.std.proofs.Common.{◌≡◌, ℕ, zero, suc, ◌<◌, Bool, true, false, cond, List, [], ◌∷◌, map, length, filter, refl, sym, ap, ◌∙◌, subst, arith}
use Rattle.std.specs.Prelude.{Option, None, Some, ◌==◌, is_some, slice_get}
use Rattle.std.specs.Option.{option_map_or}
use Rattle.std.proofs.lemmas.Bool.Decides.{nat_tests}
use Rattle.std.proofs.lemmas.Option.{slice_get-get_or, get_or_from_slice_get}
use Rattle.md_value.specs.Values.{PathBytes, is_same}
use Rattle.md_value.proofs.Orders.{same_exact, same_refl, same_sym_false, before_not_same}
use Rattle.md_world.specs.declared.Row.{Row}
use Rattle.md_world.specs.Tables.{at, StandAfter, IsTable}
use Rattle.md_world.specs.Differences.{paths_of, lists_path}
use Rattle.md_world.proofs.Lookups.{by_test, same_tables}
use Rattle.md_world.proofs.Tables.{table_with_rows}
use Rattle.md_world.proofs.Applied.{lists-paths_of}
use Rattle.md_paths.specs.Tables.{number_in, path_in, Ascend, lists, AreSorted}
use Rattle.md_paths.proofs.Sorting.{IsBeforeAll, AreWithin, ahead_listed, number_own, number_none}
use Rattle.md_store.specs.declared.slot.Slot.{Slot}
use Rattle.md_store.specs.Chains.{seen_in}
use Rattle.md_store.specs.Places.{Place, places_of, place_in, rows_seen, table_at, ArePlaces}
use Rattle.md_store.specs.Named.{has_row}
use Rattle.md_store.proofs.Placing.{number_places, place_there}
use Rattle.md_store.proofs.Reading.{place_own, key_place, within_some}
use Rattle.md_store.proofs.Tabling.{looked, at-table, looked_absent, looked_own}

-- a place that has a row is there
pub row_within : (slots : List Slot) (v i : ℕ) → has_row slots v i ≡ true → i < length slots
row_within [] v i h = cc
row_within (s ∷ slots) v zero h = omega arith
row_within (s ∷ slots) v (suc i) h = let rest = row_within slots v i h in omega arith

-- a path as a row with no attributes
abbrev bare_row : PathBytes → Row
bare_row p = record { path = p; attrs = [] }

abbrev bare_rows : List PathBytes → List Row
bare_rows paths = map bare_row paths

at-bare_rows : (paths : List PathBytes) (p : PathBytes) → at (bare_rows paths) p ≡ cond (lists_path paths p) (Some (bare_row p)) None
at-bare_rows [] p = refl
at-bare_rows (q ∷ paths) p =
    by_test (is_same q p)
    (λ b. rw b (ap (λ x. Some (bare_row x)) (same_exact q p b)))
    (λ b. rw b (at-bare_rows paths p))

paths-bare_rows : (paths : List PathBytes) → paths_of (bare_rows paths) ≡ paths
paths-bare_rows [] = refl
paths-bare_rows (q ∷ paths) = ap (λ rest. q ∷ rest) (paths-bare_rows paths)

stand_bare : (p : PathBytes) (rows : List Row) → StandAfter p rows → StandAfter p (bare_rows (paths_of rows))
stand_bare p [] h = tt
stand_bare p (r ∷ rows) h = (h.0, stand_bare p rows h.1)

table_bare : (rows : List Row) → IsTable rows → IsTable (bare_rows (paths_of rows))
table_bare [] h = tt
table_bare (r ∷ rows) h = (stand_bare r.path rows h.0, table_bare rows h.1)

-- two lists of paths in order, with the same members, are equal
same_paths : (xs ys : List PathBytes) → IsTable (bare_rows xs) → IsTable (bare_rows ys) → ((p : PathBytes) → lists_path xs p ≡ lists_path ys p) → xs ≡ ys
same_paths xs ys hx hy h =
    sym (paths-bare_rows xs) ∙ ap paths_of (same_tables (bare_rows xs) (bare_rows ys) hx hy (λ p. at-bare_rows xs p ∙ ap (λ b. cond b (Some (bare_row p)) None) (h p) ∙ sym (at-bare_rows ys p))) ∙ paths-bare_rows ys

-- ascending paths are in order as rows are
ascend_stand : (p : PathBytes) (paths : List PathBytes) → IsBeforeAll p paths → StandAfter p (bare_rows paths)
ascend_stand p [] h = tt
ascend_stand p (q ∷ paths) h = (h.0, ascend_stand p paths h.1)

ascend_table : (paths : List PathBytes) → Ascend paths → IsTable (bare_rows paths)
ascend_table [] h = tt
ascend_table (p ∷ paths) h = (ascend_stand p paths h.0, ascend_table paths h.1)

module _ (keys : List PathBytes) (t : ℕ → Bool) where
  before_filter : (p : PathBytes) (order : List ℕ) → IsBeforeAll p (map (path_in keys) order) → IsBeforeAll p (map (path_in keys) (filter t order))
  before_filter p [] h = tt
  before_filter p (n ∷ order) h = by_test (t n) (λ b. rw b (h.0, before_filter p order h.1)) (λ b. rw b (before_filter p order h.1))

  ascend_filter : (order : List ℕ) → Ascend (map (path_in keys) order) → Ascend (map (path_in keys) (filter t order))
  ascend_filter [] h = tt
  ascend_filter (n ∷ order) h = by_test (t n) (λ b. rw b (before_filter (path_in keys n) order h.0, ascend_filter order h.1)) (λ b. rw b (ascend_filter order h.1))

  within_filter : (order : List ℕ) → AreWithin keys order → AreWithin keys (filter t order)
  within_filter [] h = tt
  within_filter (n ∷ order) h = by_test (t n) (λ b. rw b (h.0, within_filter order h.1)) (λ b. rw b (within_filter order h.1))

  -- a path before all of these is not among them
  none_later : (p : PathBytes) (order : List ℕ) → IsBeforeAll p (map (path_in keys) order) → lists_path (map (path_in keys) (filter t order)) p ≡ false
  none_later p [] h = refl
  none_later p (n ∷ order) h =
      let apart = same_sym_false p (path_in keys n) (before_not_same p (path_in keys n) h.0) in
      by_test (t n)
      (λ b. rw (b, apart) (none_later p order h.1))
      (λ b. rw b (none_later p order h.1))

  -- a path is listed where its number passes
  listed : (order : List ℕ) (i : ℕ) → Ascend (map (path_in keys) order) → lists order i → lists_path (map (path_in keys) (filter t order)) (path_in keys i) ≡ t i
  listed [] i h l = cc
  listed (n ∷ order) i h l =
      by_test (n == i)
      (λ b.
      let same : n ≡ i = grind (arith, nat_tests) in
      subst (λ (k : ℕ). lists_path (map (path_in keys) (filter t (n ∷ order))) (path_in keys k) ≡ t k) same
      (by_test (t n)
      (λ e. rw (e, same_refl (path_in keys n)) refl)
      (λ e. rw e (none_later (path_in keys n) order h.0))))
      (λ b.
      let rest = rw b at l in
      let apart = before_not_same (path_in keys n) (path_in keys i) (ahead_listed keys (path_in keys n) order i h.0 rest) in
      by_test (t n)
      (λ e. rw (e, apart) (listed order i h.1 rest))
      (λ e. rw e (listed order i h.1 rest)))

  -- a path without a number is not listed
  absent : (order : List ℕ) (p : PathBytes) → number_in keys p ≡ None → AreWithin keys order → lists_path (map (path_in keys) (filter t order)) p ≡ false
  absent [] p h w = refl
  absent (n ∷ order) p h w =
      let apart = number_none keys p n h w.0 in
      by_test (t n)
      (λ e. rw (e, apart) (absent order p h w.1))
      (λ e. rw e (absent order p h w.1))

module _ (n v : ℕ) (keys : List PathBytes) (slots : List Slot) (same : length keys ≡ length slots) (h : ArePlaces n (places_of keys slots)) where
  abbrev places : List Place
  places = places_of keys slots

  -- what a version sees at the path of a number
  seen_own : (i : ℕ) → i < length keys → is_some (looked places v (path_in keys i)) ≡ has_row slots v i
  seen_own i lt = cases (slice_get slots i) refl
    where
      cases : (o : Option Slot) → slice_get slots i ≡ o → is_some (looked places v (path_in keys i)) ≡ has_row slots v i
      cases None e = absurd (within_some slots i (omega (arith, lt, same)) e)
      cases (Some s) e =
          let t = place_there keys slots i s same e in
          let path : path_in keys i ≡ t.0 = get_or_from_slice_get keys i t.0 [] t.1 in
          ap is_some (ap (looked places v) path ∙ looked_own n v places i (record { path = t.0; stamp = s.stamp; rows = s.chain.items }) h t.2)
          ∙ sym (ap (λ o. option_map_or (λ slot. is_some (seen_in slot.chain.items v)) o false) e)

  own_place : (order : List ℕ) → AreWithin keys order → map Some order ≡ map (place_in places) (map (path_in keys) order)
  own_place [] w = refl
  own_place (i ∷ order) w =
      let x = key_place keys slots i (path_in keys i) same (slice_get-get_or keys i [] w.0) in
      let here : Some i ≡ place_in places (path_in keys i) = sym (ap (place_in places) (sym x.2) ∙ place_own n places i x.0 h x.1) in
      ap (λ (o : Option ℕ). o ∷ map Some order) here ∙ ap (λ rest. place_in places (path_in keys i) ∷ rest) (own_place order w.1)

  module _ (order : List ℕ) (sorted : AreSorted keys order) where
    abbrev table : List Row
    table = table_at places v

    abbrev found : List ℕ
    found = filter (has_row slots v) order

    in_table : (p : PathBytes) → is_some (looked places v p) ≡ lists_path (paths_of table) p
    in_table p = ap is_some (sym (at-table n v p places h)) ∙ sym (lists-paths_of table p)

    by_number : (p : PathBytes) (o : Option ℕ) → number_in keys p ≡ o → lists_path (map (path_in keys) found) p ≡ lists_path (paths_of table) p
    by_number p None e =
        let gone : looked places v p ≡ None = looked_absent places v p (sym (number_places p keys slots same) ∙ e) in
        absent keys (has_row slots v) order p e sorted.within ∙ sym (ap is_some gone) ∙ in_table p
    by_number p (Some i) e =
        let own = number_own keys p i e in
        subst (λ q. lists_path (map (path_in keys) found) q ≡ lists_path (paths_of table) q) own.1
        (listed keys (has_row slots v) order i sorted.ascend (sorted.all i own.0) ∙ sym (seen_own i own.0) ∙ in_table (path_in keys i))

    -- the numbers of paths that have a row, in path order, are the places of the table's paths in turn
    pub in_order : map Some found ≡ map (place_in places) (paths_of table)
    in_order =
        let paths : map (path_in keys) found ≡ paths_of table =
        same_paths (map (path_in keys) found) (paths_of table)
        (ascend_table (map (path_in keys) found) (ascend_filter keys (has_row slots v) order sorted.ascend))
        (table_bare table (table_with_rows [] (rows_seen places v) tt))
        (λ p. by_number p (number_in keys p) refl) in
        own_place found (within_filter keys (has_row slots v) order sorted.within) ∙ ap (map (place_in places)) paths
