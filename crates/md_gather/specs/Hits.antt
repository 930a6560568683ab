-- The hits among candidates.
use Rattle.std.specs.Prelude.{ℕ, Bool, true, false, List, [], Option, None, Some, take, drop, map, filter, nat_le, nat_lt, if◌then◌else◌}
use Rattle.std.specs.List.{filter_map}
use Rattle.md_match.specs.Conditions.{Condition, passes}
use Rattle.md_world.specs.Tables.{at, shown}
use Rattle.md_world.specs.declared.Row.{Row}
use Rattle.md_store.specs.Places.{path_at, table_at}
use Rattle.md_store.specs.Stores.{Stored}

-- the candidates that are left, and the version that they are of
pub record Left : Type 0 where
  pub left : List ℕ
  pub version : ℕ

-- the row of a version at a place, if there is one
abbrev pub row_in : Stored → ℕ → ℕ → Option Row
row_in store version place = at (table_at store.places version) (path_at store.places place)

-- the rows of a version at these places
abbrev pub rows_in : Stored → ℕ → List ℕ → List Row
rows_in store version places = filter_map (row_in store version) places

-- those of them that pass the filter, as they are shown
abbrev pub hits_in : Condition → Stored → ℕ → List ℕ → List Row
hits_in condition store version places = map shown (filter (passes condition) (rows_in store version places))

-- the row as it is shown, if it passes the filter
abbrev pub hit_in : Condition → Option Row → Option Row
hit_in condition None = None
hit_in condition (Some row) = if passes condition row then Some (shown row) else None

-- the first rows, at most so many
abbrev pub first_of : Option ℕ → List Row → List Row
first_of None rows = rows
first_of (Some most) rows = take most rows

-- the rows after these
abbrev pub past : Option ℕ → List Row → List Row
past None rows = []
past (Some most) rows = drop most rows

-- whether so many are as many as are asked for
abbrev pub is_full : Option ℕ → ℕ → Bool
is_full None count = false
is_full (Some most) count = nat_le most count

-- whether so many are fewer than are asked for
abbrev pub is_last : Option ℕ → ℕ → Bool
is_last None count = true
is_last (Some most) count = nat_lt count most
