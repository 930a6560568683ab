-- The places that a plan finds.
use Rattle.std.specs.Prelude.{◌≡◌, ℕ, ◌<◌, ◌≤◌, Bool, false, List, length, filter, Option, None, Some, is_some}
use Rattle.std.specs.Option.{option_map_or}
use Rattle.std.specs.List.Sorted.{IsStrictlyIncreasing}
use Rattle.md_world.specs.declared.Row.{Row}
use Rattle.md_match.specs.Candidates.{RowSet}
use Rattle.md_index.specs.Indexed.{lists}

-- whether the row of a place is of the set
abbrev pub is_in : (ℕ → Option Row) → RowSet → ℕ → Bool
is_in rows set place = option_map_or set (rows place) false

-- the places in order whose row is of the set, among all places that have a row
abbrev pub places_of : (ℕ → Option Row) → List ℕ → RowSet → List ℕ
places_of rows all set = filter (is_in rows set) all

-- how many rows a set has
abbrev pub size_of : (ℕ → Option Row) → List ℕ → RowSet → ℕ
size_of rows all set = length (places_of rows all set)

-- these are all places that have a row, in order
pub record AreAll (rows : ℕ → Option Row) (all : List ℕ) : Type 0 where
  pub rising : IsStrictlyIncreasing all
  pub listed : (place : ℕ) → lists all place ≡ is_some (rows place)

-- the places, or that there are more than so many
abbrev pub IsFound : ℕ → List ℕ → Option (List ℕ) → Type 0
IsFound most places None = most < length places
IsFound most places (Some found) = (found ≡ places) × (length places ≤ most)
