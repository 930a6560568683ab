-- What an index holds, and what it answers.
use Rattle.std.specs.Prelude.{◌≡◌, ℕ, ◌==◌, ◌/◌, ◌%◌, nat_eq, nat_le, Bool, true, false, not, ◌&&◌, ◌||◌, List, Option, None, Some, is_some, if◌then◌else◌}
use Rattle.std.specs.List.{list_any}
use Rattle.std.specs.BTreeMap.{BTreeMap}
use Rattle.md_value.specs.declared.value.Value.{Value}
use Rattle.md_world.specs.declared.Row.{Row}
use Rattle.md_index.specs.declared.between.Mark.TheVariants as mark
use Rattle.md_index.specs.declared.between.Probe.{Probe}
use Rattle.md_index.specs.declared.facts.Fact.{Fact}
use Rattle.md_index.specs.declared.index.Index.{Index}
use Rattle.md_index.specs.declared.places.Places.{Places}
use Rattle.md_index.specs.declared.wanted.Wanted.{Wanted}
use Rattle.md_index.specs.Between.{is_between, mark_of}
use Rattle.md_index.specs.Facts.{values_named, has_fact, row_has}
use Rattle.md_index.specs.States.{block_state, place_state, state, is_on}
use Rattle.md_index.specs.Keys.{Orders, AreKeysAt, is_keyed, is_of_texts, keys_at}

-- attributes by name, each with its values and their places
abbrev pub Names : Type 0
Names = BTreeMap (List ℕ) (BTreeMap Value Places)

-- each place is at exactly the values that its row has
abbrev pub HoldRows : Names → (ℕ → Option Row) → Type 0
HoldRows names rows = (name : List ℕ) (value : Value) (place : ℕ) → is_on (state names name value place) ≡ row_has (rows place) name value

-- the places are exactly those that have a row
abbrev pub HoldPlaces : Places → (ℕ → Option Row) → Type 0
HoldPlaces places rows = (place : ℕ) → is_on (place_state places place) ≡ is_some (rows place)

-- where keys are wanted, each is a right one, and each text of a row has its own
pub record HoldKeys (orders : Orders) (rows : ℕ → Option Row) : Type 0 where
  pub right : (wanted : Wanted) → AreKeysAt wanted (keys_at orders wanted)
  pub whole : (wanted : Wanted) (key : List ℕ) (value : Value) (place : ℕ) → mark_of wanted.fold wanted.marks value ≡ mark.Text key → row_has (rows place) wanted.name value ≡ true → is_keyed (keys_at orders wanted) key value ≡ true

-- the index has exactly these rows by place
abbrev pub Holds : Index → (ℕ → Option Row) → Type 0
Holds index rows = HoldRows index.names rows × HoldPlaces index.rows rows × HoldKeys index.orders rows

-- there is room for the place at each of these
abbrev pub HasRoom : Names → List Fact → ℕ → Type 0
HasRoom names facts place = (name : List ℕ) (value : Value) → has_fact facts name value ≡ true → is_some (state names name value place) ≡ true

-- where keys are wanted, each text of these has its own
abbrev pub HasKeys : Orders → List Fact → Type 0
HasKeys orders facts =
    (wanted : Wanted) (key : List ℕ) (value : Value) → mark_of wanted.fold wanted.marks value ≡ mark.Text key → has_fact facts wanted.name value ≡ true → is_keyed (keys_at orders wanted) key value ≡ true

-- a change of the row of a place: the facts that it loses, those that it gains, and whether there is a row then
pub record Prepared : Type 0 where
  pub place : ℕ
  pub drops : List Fact
  pub adds : List Fact
  pub is_row : Bool

-- what takes a place from the old row to the new one
pub record IsReady (ready : Prepared) (old new : Option Row) : Type 0 where
  pub adds : (name : List ℕ) (value : Value) → has_fact ready.adds name value ≡ row_has new name value && not (row_has old name value)
  pub drops : (name : List ℕ) (value : Value) → has_fact ready.drops name value ≡ row_has old name value && not (row_has new name value)
  pub is_row : ready.is_row ≡ is_some new

-- the index is as it was made ready for the change
abbrev pub CanApply : Index → Prepared → Type 0
CanApply index ready =
    HasRoom index.names ready.adds ready.place × (ready.is_row ≡ true → is_some (place_state index.rows ready.place) ≡ true) × HasKeys index.orders ready.adds

-- keys are wanted for the probe, if only texts are between its edges
abbrev pub IsWanted : Index → Probe → Type 0
IsWanted index probe =
    is_of_texts probe ≡ true → is_some (keys_at index.orders (record { name = probe.name; fold = probe.fold; marks = probe.marks })) ≡ true

-- the rows with this one at the place
abbrev pub row_set : (ℕ → Option Row) → ℕ → Option Row → ℕ → Option Row
row_set rows place row other = if place == other then row else rows other

-- whether a place is among these
abbrev pub lists : List ℕ → ℕ → Bool
lists places place = list_any (nat_eq place) places

-- what becomes of a list of places to which these are added, all of them or, where it is not whole, some
pub record Adds (old new : List ℕ) (whole : Bool) (more : ℕ → Bool) : Type 0 where
  pub some : (place : ℕ) → lists new place ≡ true → lists old place || more place ≡ true
  pub all : whole ≡ true → (place : ℕ) → lists new place ≡ lists old place || more place

-- whether a place is of the block, which is a number and a word, and is counted
abbrev pub in_block : ℕ × ℕ → ℕ → Bool
in_block block place = nat_eq (place / 32) block.0 && is_on (block_state (Some block.1) place)

-- whether a place is of the block from a bit on, and is counted
abbrev pub from_bit : ℕ → ℕ × ℕ → ℕ → Bool
from_bit bit block place = nat_le bit (place % 32) && in_block block place

-- whether a place is counted in one of these blocks
abbrev pub in_blocks : List (ℕ × ℕ) → ℕ → Bool
in_blocks blocks place = list_any (λ (block : ℕ × ℕ). in_block block place) blocks

-- whether a place is counted at a value between the edges
abbrev pub counted_between : Probe → List (Value × Places) → ℕ → Bool
counted_between probe values place = list_any (λ (entry : Value × Places). is_between probe entry.0 && is_on (place_state entry.1 place)) values

-- whether the row has a value of the probe's attribute between its edges
abbrev pub row_between : Probe → Option Row → Bool
row_between probe None = false
row_between probe (Some row) = list_any (is_between probe) (values_named row.attrs probe.name)
