-- What an index has at a name, a value and a place: nothing, room for the place, or the place.
use Rattle.std.specs.Prelude.{ℕ, ◌%◌, ◌/◌, ◌^◌, ◌==◌, nat_lt, Bool, false, List, Option, None, Some, if◌then◌else◌}
use Rattle.std.specs.Int.{bit_at}
use Rattle.std.specs.Ordering.{nat_cmp}
use Rattle.std.specs.Cmp.Lexicographic.{slice_cmp}
use Rattle.std.specs.BTreeMap.{BTreeMap, get}
use Rattle.md_value.specs.declared.value.Value.{Value}
use Rattle.md_world.specs.Orders.{value_cmp}
use Rattle.md_index.specs.declared.places.Places.{Places}
use Rattle.md_index.specs.declared.places.Places.TheVariants as kept

-- whether there is a place, and not only room for it
abbrev pub is_on : Option Bool → Bool
is_on None = false
is_on (Some flag) = flag

-- what is there after it was set, where it was to be set here and there is room
abbrev pub written : Bool → Bool → Option Bool → Option Bool
written here flag None = None
written here flag (Some old) = Some (if here then flag else old)

-- whether the number has a 1 at the bit
abbrev pub has_bit : ℕ → ℕ → Bool
has_bit word bit = bit_at word bit == 1

-- what a word of 32 places has at a place among them; places are below 2^32
abbrev pub block_state : Option ℕ → ℕ → Option Bool
block_state None place = None
block_state (Some word) place = if nat_lt place (2 ^ 32) then Some (has_bit word (place % 32)) else None

-- what words by the number of their block of 32 places have at a place
abbrev pub blocks_state : BTreeMap ℕ ℕ → ℕ → Option Bool
blocks_state blocks place = block_state (get nat_cmp blocks (place / 32)) place

-- what one place has at a place
abbrev pub one_state : ℕ → Bool → ℕ → Option Bool
one_state one counted place = if place == one then Some counted else None

abbrev pub place_state : Places → ℕ → Option Bool
place_state (kept.One one counted) place = one_state one counted place
place_state (kept.Many blocks) place = blocks_state blocks place

abbrev pub state_in : Option Places → ℕ → Option Bool
state_in None place = None
state_in (Some places) place = place_state places place

-- what some values have at a value and a place
abbrev pub value_state : BTreeMap Value Places → Value → ℕ → Option Bool
value_state values value place = state_in (get value_cmp values value) place

abbrev pub named_state : Option (BTreeMap Value Places) → Value → ℕ → Option Bool
named_state None value place = None
named_state (Some values) value place = value_state values value place

-- what some attributes have at a name, a value and a place
abbrev pub state : BTreeMap (List ℕ) (BTreeMap Value Places) → List ℕ → Value → ℕ → Option Bool
state names name value place = named_state (get (slice_cmp nat_cmp) names name) value place
