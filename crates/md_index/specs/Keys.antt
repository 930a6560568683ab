-- Texts in the order of their keys, under the modifiers that were asked for.
use Rattle.std.specs.Prelude.{◌≡◌, ℕ, Bool, true, List, [], Option, None, Some, is_some, ◌&&◌, ◌||◌, ℤ}
use Rattle.std.specs.Option.{option_map}
use Rattle.std.specs.declared.cmp.Ordering.{Ordering}
use Rattle.std.specs.Ordering.{nat_cmp, bool_cmp, then_cmp, on, eq_by_cmp, is_le}
use Rattle.std.specs.Cmp.{IsEquivalence, IsTotalOrder, on_total, then_total, bool_cmp_total, eq_by_cmp_equiv}
use Rattle.std.specs.Cmp.Lexicographic.{slice_cmp}
use Rattle.std.specs.List.{list_any}
use Rattle.std.specs.BTreeMap.{BTreeMap, get}
use Rattle.std.specs.BTreeSet.{BTreeSet, contains}
use Rattle.std.proofs.lemmas.Cmp.{nat_list_cmp_total}
use Rattle.md_value.specs.declared.value.Value.{Value}
use Rattle.md_value.specs.declared.value.Value.TheVariants as value
use Rattle.md_world.specs.Orders.{value_cmp}
use Rattle.md_index.specs.declared.between.Edge.{Edge}
use Rattle.md_index.specs.declared.between.Edge.TheVariants as edge
use Rattle.md_index.specs.declared.between.Mark.{Mark}
use Rattle.md_index.specs.declared.between.Mark.TheVariants as mark
use Rattle.md_index.specs.declared.between.Probe.{Probe}
use Rattle.md_index.specs.declared.keyed.Keyed.{Keyed}
use Rattle.md_index.specs.declared.wanted.Wanted.{Wanted}
use Rattle.md_index.specs.declared.stretch.Stretch.{Stretch}
use Rattle.md_index.specs.declared.places.Places.{Places}
use Rattle.md_index.specs.Order.{value_total}
use Rattle.md_index.specs.Between.{mark_of, is_key_between}
use Rattle.md_index.specs.States.{is_on, value_state}

-- by key, and then by value
abbrev pub keyed_cmp : Keyed → Keyed → Ordering
keyed_cmp = then_cmp (on (λ (k : Keyed). k.key) (slice_cmp nat_cmp)) (on (λ (k : Keyed). k.indexed) value_cmp)

abbrev pub is_one_keyed : Keyed → Keyed → Bool
is_one_keyed = eq_by_cmp keyed_cmp

pub keyed_total : IsTotalOrder keyed_cmp
keyed_total = then_total (on_total (λ (k : Keyed). k.key) nat_list_cmp_total) (on_total (λ (k : Keyed). k.indexed) value_total)

pub keyed_equiv : IsEquivalence is_one_keyed
keyed_equiv = eq_by_cmp_equiv keyed_total

-- by name, and then by modifiers
abbrev pub wanted_cmp : Wanted → Wanted → Ordering
wanted_cmp =
    then_cmp (on (λ (w : Wanted). w.name) (slice_cmp nat_cmp)) (then_cmp (on (λ (w : Wanted). w.fold) bool_cmp) (on (λ (w : Wanted). w.marks) bool_cmp))

abbrev pub is_one_wanted : Wanted → Wanted → Bool
is_one_wanted = eq_by_cmp wanted_cmp

pub wanted_total : IsTotalOrder wanted_cmp
wanted_total =
    then_total (on_total (λ (w : Wanted). w.name) nat_list_cmp_total)
    (then_total (on_total (λ (w : Wanted). w.fold) bool_cmp_total) (on_total (λ (w : Wanted). w.marks) bool_cmp_total))

pub wanted_equiv : IsEquivalence is_one_wanted
wanted_equiv = eq_by_cmp_equiv wanted_total

-- texts of an attribute in the order of their keys
abbrev pub Keys : Type 0
Keys = BTreeSet Keyed

-- such orders, by attribute and modifiers
abbrev pub Orders : Type 0
Orders = BTreeMap Wanted Keys

-- whether the value is among them under the key
abbrev pub has_key : Keys → List ℕ → Value → Bool
has_key keys key value = contains keyed_cmp keys (record { key = key; indexed = value })

-- each of them stands under its own key
abbrev pub AreKeys : Bool → Bool → Keys → Type 0
AreKeys fold marks keys = (key : List ℕ) (value : Value) → has_key keys key value ≡ true → mark_of fold marks value ≡ mark.Text key

-- the same, where keys are wanted
abbrev pub AreKeysAt : Wanted → Option Keys → Type 0
AreKeysAt wanted None = Unit {0}
AreKeysAt wanted (Some keys) = AreKeys wanted.fold wanted.marks keys

-- whether the value is among them under the key, where keys are wanted
abbrev pub is_keyed : Option Keys → List ℕ → Value → Bool
is_keyed None key value = true
is_keyed (Some keys) key value = has_key keys key value

-- the keys of an attribute under modifiers, where they are wanted
abbrev pub keys_at : Orders → Wanted → Option Keys
keys_at orders wanted = get wanted_cmp orders wanted

-- right keys stay right, and no key is lost
pub record Grows (old new : Orders) : Type 0 where
  pub right : (wanted : Wanted) → AreKeysAt wanted (keys_at old wanted) → AreKeysAt wanted (keys_at new wanted)
  pub kept : (wanted : Wanted) (key : List ℕ) (value : Value) → is_keyed (keys_at old wanted) key value ≡ true → is_keyed (keys_at new wanted) key value ≡ true

-- the keys are those of the texts that are counted, and of no other values
pub record AreKeysOf (probe : Probe) (keys : Keys) (values : BTreeMap Value Places) : Type 0 where
  pub right : AreKeys probe.fold probe.marks keys
  pub whole : (key : List ℕ) (value : Value) (place : ℕ) → mark_of probe.fold probe.marks value ≡ mark.Text key → is_on (value_state values value place) ≡ true → has_key keys key value ≡ true

-- the same, where keys are wanted
abbrev pub AreKeysFor : Probe → Option Keys → BTreeMap Value Places → Type 0
AreKeysFor probe None values = Unit {0}
AreKeysFor probe (Some keys) values = AreKeysOf probe keys values

-- the key at an edge, if a text is there
abbrev pub edge_key : Edge → Option (List ℕ)
edge_key (edge.With (mark.Text key)) = Some key
edge_key (edge.Without (mark.Text key)) = Some key
edge_key e = None

-- what is before all texts of the key: no text is before the empty one
abbrev pub before_texts : List ℕ → Keyed
before_texts key = record { key = key; indexed = value.Text [] }

-- what is after all texts of the key: each text is before all numbers
abbrev pub after_texts : List ℕ → Keyed
after_texts key = record { key = key; indexed = value.Number (ℤ.pos 0) }

-- whether only texts are between the edges
abbrev pub is_of_texts : Probe → Bool
is_of_texts probe = is_some (edge_key probe.low) || is_some (edge_key probe.high)

-- whether a place is counted at one of these whose key is between the edges
abbrev pub counted_keyed : Probe → BTreeMap Value Places → List Keyed → ℕ → Bool
counted_keyed probe values keys place =
    list_any (λ (k : Keyed). is_key_between probe k.key && is_on (value_state values k.indexed place)) keys

-- whether the first is not after the second
abbrev pub is_upward : Option Keyed → Option Keyed → Bool
is_upward (Some low) (Some high) = is_le (keyed_cmp low high)
is_upward low high = true

-- only texts are between the edges, and their keys are between these two
pub record IsStretchOf (probe : Probe) (stretch : Stretch) : Type 0 where
  pub texts : is_of_texts probe ≡ true
  pub low : stretch.low ≡ option_map before_texts (edge_key probe.low)
  pub high : stretch.high ≡ option_map after_texts (edge_key probe.high)
  pub upward : is_upward stretch.low stretch.high ≡ true
