-- In which list of a difference a place is.
use Rattle.std.specs.Prelude.{ℕ, Bool, true, false, List, Option, None, Some, nat_eq, if◌then◌else◌}
use Rattle.std.specs.Map.{lookup}
use Rattle.md_match.specs.Conditions.{Condition, passes}
use Rattle.md_world.specs.declared.Row.{Row}
use Rattle.md_world.specs.Tables.{same_row}
use Rattle.md_touch.specs.declared.kind.Kind.{Kind}
use Rattle.md_touch.specs.declared.kind.Kind.TheVariants.{Added, Changed, Removed}

-- the list that a place is in, if it is in one
abbrev pub kind_at : List (ℕ × Kind) → ℕ → Option Kind
kind_at kinds place = lookup (nat_eq place) kinds

-- the list that a path is in, by its place, if it has one
abbrev pub kind_in : List (ℕ × Kind) → Option ℕ → Option Kind
kind_in kinds None = None
kind_in kinds (Some place) = kind_at kinds place

-- whether a kind is this one
abbrev pub is_kind : Kind → Kind → Bool
is_kind Added Added = true
is_kind Changed Changed = true
is_kind Removed Removed = true
is_kind _ _ = false

-- the row, if there is one and it passes
abbrev pub kept : Condition → Option Row → Option Row
kept condition None = None
kept condition (Some row) = if passes condition row then Some row else None

-- the list of a path, by the rows that two answers have of it
abbrev pub kind_by_rows : Option Row → Option Row → Option Kind
kind_by_rows None None = None
kind_by_rows None (Some new) = Some Added
kind_by_rows (Some old) None = Some Removed
kind_by_rows (Some old) (Some new) = if same_row old new then None else Some Changed

-- the list of a path, by its rows on the base and on the newest version
abbrev pub kind_for : Condition → Option Row → Option Row → Option Kind
kind_for condition base after = kind_by_rows (kept condition base) (kept condition after)
