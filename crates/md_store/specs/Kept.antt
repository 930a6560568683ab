-- What holds of a store's fields.
use Rattle.std.specs.Prelude.{◌≡◌, ℕ, ◌+◌, ◌<◌, ◌≤◌, length, Some, vec_len, vec_capacity}
use Rattle.md_store.specs.declared.store.Store.TheInside.{Inside}
use Rattle.md_store.specs.Open.{tickets_of, AreDrawn}
use Rattle.md_store.specs.Pins.{Ascend}
use Rattle.md_store.specs.Places.{places_of, kept_of, ArePlaces, HasRowRoom}

pub record IsKept (s : Inside) : Type 0 where
  pub same : length s.paths.keys ≡ length s.slots.items
  pub places : ArePlaces s.version (places_of s.paths.keys s.slots.items)
  pub tickets : AreDrawn s.drawn (tickets_of s.tickets.entries)
  pub counted : s.version + length (tickets_of s.tickets.entries) ≤ s.drawn
  pub drawn : s.drawn ≤ s.limits.tickets
  pub pins : Ascend s.pins.items
  pub stamped : length s.slots.items ≤ s.limits.paths
  pub kept : s.kept ≡ kept_of (places_of s.paths.keys s.slots.items)
  pub few : s.kept ≤ s.version
  pub chain_room : (place : ℕ) → s.room ≡ Some place → HasRowRoom s.slots.items place
  pub place_room : s.room ≡ Some (length s.slots.items) → (0 < s.paths.spare) × (vec_len s.slots < vec_capacity s.slots)
