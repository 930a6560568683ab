-- Places that have a row.
use Rattle.std.specs.Prelude.{ℕ, Bool, false, List, is_some, slice_get}
use Rattle.std.specs.Option.{option_map_or}
use Rattle.md_store.specs.declared.slot.Slot.{Slot}
use Rattle.md_store.specs.Chains.{seen_in}

-- whether a version sees a row at a place
abbrev pub has_row : List Slot → ℕ → ℕ → Bool
has_row slots version place = option_map_or (λ slot. is_some (seen_in slot.chain.items version)) (slice_get slots place) false
