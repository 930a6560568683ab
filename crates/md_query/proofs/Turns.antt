-- The rows of a version's places are the rows of its table in turn.
use Rattle.std.proofs.Common.{◌≡◌, ℕ, zero, suc, ◌+◌, ◌<◌, ◌≤◌, true, List, [], ◌∷◌, ◌++◌, map, length, take, refl, sym, ap, ◌∙◌, subst, arith}
use Rattle.std.specs.Prelude.{Some, slice_get}
use Rattle.std.proofs.lemmas.List.{length-map, take_more}
use Rattle.std.proofs.lemmas.Option.{slice_get_within, get_or_from_slice_get}
use Rattle.md_value.specs.Values.{PathBytes, is_same, is_before}
use Rattle.md_value.proofs.Orders.{before_not_same}
use Rattle.md_world.specs.declared.Row.{Row}
use Rattle.md_world.specs.Tables.{at, StandAfter, IsTable}
use Rattle.md_world.specs.Differences.{paths_of}
use Rattle.md_world.proofs.Lookups.{some_inj, at_own}
use Rattle.md_world.proofs.Tables.{table_with_rows}
use Rattle.md_store.specs.Places.{Place, place_in, path_at, rows_seen, table_at}
use Rattle.md_store.proofs.Placing.{place_found, place_within}
use Rattle.md_store.proofs.Reading.{path_there}

-- these are the places of the rows' paths in turn
abbrev pub ArePlacesOf : List Place → List Row → List ℕ → Type 0
ArePlacesOf places rows found = map Some found ≡ map (place_in places) (paths_of rows)

first_of : {A : Type 0} (x y : A) (xs ys : List A) → x ∷ xs ≡ y ∷ ys → x ≡ y
first_of x y xs ys e = cc

rest_of : {A : Type 0} (x y : A) (xs ys : List A) → x ∷ xs ≡ y ∷ ys → xs ≡ ys
rest_of x y xs ys e = cc

row_of_place : (places : List Place) (rows : List Row) (found : List ℕ) (j place : ℕ) → ArePlacesOf places rows found → slice_get found j ≡ Some place
    → (r : Row) × (slice_get rows j ≡ Some r) × (place_in places r.path ≡ Some place)
row_of_place places rows [] j place e h = cc
row_of_place places [] (p ∷ found) j place e h = absurd (cons_nil (Some p) (map Some found) e)
  where
    cons_nil : {A : Type 0} (x : A) (xs : List A) → x ∷ xs ≡ [] → ⊥
    cons_nil x xs e = cc
row_of_place places (r ∷ rows) (p ∷ found) zero place e h =
    (r, refl, sym (first_of (Some p) (place_in places r.path) (map Some found) (map (place_in places) (paths_of rows)) e) ∙ h)
row_of_place places (r ∷ rows) (p ∷ found) (suc j) place e h =
    row_of_place places rows found j place (rest_of (Some p) (place_in places r.path) (map Some found) (map (place_in places) (paths_of rows)) e) h

stands_at : (p : PathBytes) (rows : List Row) (j : ℕ) (r : Row) → StandAfter p rows → slice_get rows j ≡ Some r → is_before p r.path ≡ true
stands_at p [] j r h e = cc
stands_at p (x ∷ rows) zero r h e = subst (λ (y : Row). is_before p y.path ≡ true) (some_inj x r e) h.0
stands_at p (x ∷ rows) (suc j) r h e = stands_at p rows j r h.1 e

at_there : (rows : List Row) (j : ℕ) (r : Row) → IsTable rows → slice_get rows j ≡ Some r → at rows r.path ≡ Some r
at_there [] j r h e = cc
at_there (x ∷ rows) zero r h e = subst (λ (y : Row). at (x ∷ rows) y.path ≡ Some y) (some_inj x r e) (at_own x rows)
at_there (x ∷ rows) (suc j) r h e =
    let apart = before_not_same x.path r.path (stands_at x.path rows j r h.0 e) in
    rw apart (at_there rows j r h.1 e)

module _ (places : List Place) (version : ℕ) (found : List ℕ) (all : ArePlacesOf places (table_at places version) found) (j place : ℕ) (there : slice_get found j ≡ Some place) where
  -- a place that is listed is there
  pub listed_within : place < length places
  listed_within =
      let r = row_of_place places (table_at places version) found j place all there in
      place_within places r.0.path place r.2

  -- and its path has the row that the table has in turn
  pub listed_row : (r : Row) × (slice_get (table_at places version) j ≡ Some r) × (at (table_at places version) (path_at places place) ≡ Some r)
  listed_row =
      let table = table_at places version in
      let r = row_of_place places table found j place all there in
      let x = place_found places r.0.path place r.2 in
      let path : path_at places place ≡ r.0.path = path_there places place x.0 x.1 ∙ x.2 in
      (r.0, r.1, ap (at table) path ∙ at_there table j r.0 (table_with_rows [] (rows_seen places version) tt) r.1)

-- one more row of a table
pub one_more : (table : List Row) (j : ℕ) (r : Row) → slice_get table j ≡ Some r → take (j + 1) table ≡ take j table ++ r ∷ []
one_more table j r e = take_more table j r (slice_get_within table j r e) ∙ ap (λ (x : Row). take j table ++ x ∷ []) (get_or_from_slice_get table j r r e)

-- there are as many places as rows
pub as_many : (places : List Place) (rows : List Row) (found : List ℕ) → ArePlacesOf places rows found → length found ≡ length rows
as_many places rows found e =
    sym (length-map found Some) ∙ ap length e ∙ length-map (paths_of rows) (place_in places) ∙ length-map rows (λ (r : Row). r.path)
