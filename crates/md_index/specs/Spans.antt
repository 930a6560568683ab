-- The values that may be between the edges of a probe, as those between two values.
use Rattle.std.specs.Prelude.{◌≡◌, pos, ◌+ℤ◌, ◌≤ℤ◌, ◌<ℤ◌, ◌^◌, Bool, true, List, filter, Option, None, Some}
use Rattle.std.specs.Ordering.{is_le}
use Rattle.std.specs.BTreeMap.Range.{range_contains}
use Rattle.std.specs.declared.ops.Bound.{Bound}
use Rattle.std.specs.declared.ops.Bound.TheVariants.{Included, Unbounded}
use Rattle.md_value.specs.declared.value.Value.{Value}
use Rattle.md_value.specs.declared.value.Value.TheVariants as value
use Rattle.md_world.specs.Orders.{value_cmp}
use Rattle.md_index.specs.declared.between.Mark.{Mark}
use Rattle.md_index.specs.declared.between.Mark.TheVariants as mark
use Rattle.md_index.specs.declared.between.Edge.{Edge}
use Rattle.md_index.specs.declared.between.Edge.TheVariants as edge
use Rattle.md_index.specs.declared.places.Places.{Places}
use Rattle.md_index.specs.Between.{parts}

-- the value is the greatest number or moment that is not above the mark; none says nothing
abbrev pub IsFloor : Mark → Option Value → Type 0
IsFloor m None = Unit {0}
IsFloor (mark.Number m) (Some (value.Number q)) = (parts q ≤ℤ m) × (m <ℤ (parts q +ℤ pos (10 ^ 9)))
IsFloor (mark.Moment m) (Some (value.Moment q)) = q ≡ m
IsFloor m v = ⊥

abbrev pub IsFloorOf : Edge → Option Value → Type 0
IsFloorOf edge.None None = Unit {0}
IsFloorOf edge.None (Some v) = ⊥
IsFloorOf (edge.With m) v = IsFloor m v
IsFloorOf (edge.Without m) v = IsFloor m v

-- the value as a bound
abbrev pub bound_at : {X : Type 0} → Option X → Bound X
bound_at None = Unbounded
bound_at (Some v) = Included v

-- whether the first value is not after the second
abbrev pub is_forward : Option Value → Option Value → Bool
is_forward (Some low) (Some high) = is_le (value_cmp low high)
is_forward low high = true

-- whether a value is between two
abbrev pub is_within : Option Value → Option Value → Value → Bool
is_within low high v = range_contains value_cmp (bound_at low) (bound_at high) v

-- the values between two with their places
abbrev pub within : Option Value → Option Value → List (Value × Places) → List (Value × Places)
within low high entries = filter (λ entry. is_within low high entry.0) entries
