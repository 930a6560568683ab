-- Rows that lie under keys, and lists of keys.
use Rattle.std.specs.Prelude.{◌≡◌, ℕ, Bool, true, false, List, [], Option, None, Some, is_some, map, min, ◌-◌, length}
use Rattle.slab.specs.Slab.{Slab, slab_len}
use Rattle.std.specs.List.{AllByRecursion}
use Rattle.std.specs.List.Sorted.{IsPermutation}
use Rattle.std.specs.Option.{option_map_or}
use Rattle.md_world.specs.declared.Row.{Row}
use Rattle.md_world.specs.declared.order.SortKey.{SortKey}
use Rattle.md_world.specs.Orders.{IsOrdered}
use Rattle.md_sort.specs.Kept.{AreKept}
use Rattle.md_pages.specs.Pages.{Listed}

-- the row, or an empty one where there is none
abbrev pub row_or_empty : Option Row → Row
row_or_empty None = record { path = []; attrs = [] }
row_or_empty (Some row) = row

-- the rows under these slots
abbrev pub rows_at : (ℕ → Option Row) → List ℕ → List Row
rows_at find slots = map (λ slot. row_or_empty (find slot)) slots

-- each slot has a row
abbrev pub AllHeld : (ℕ → Option Row) → List ℕ → Type 0
AllHeld find slots = AllByRecursion (λ slot. is_some (find slot) ≡ true) slots

-- whether there is a row that passes
abbrev pub passes : (Row → Bool) → Option Row → Bool
passes test row = option_map_or test row false

-- both lists lead to the same rows, one by path and the other in the order
pub record AreIndexed (order : List SortKey) (find : ℕ → Option Row) (paths places : List ℕ) : Type 0 where
  pub paths_held : AllHeld find paths
  pub places_held : AllHeld find places
  pub by_path : IsOrdered [] (rows_at find paths)
  pub kept : AreKept order (rows_at find places)
  pub same : IsPermutation (rows_at find paths) (rows_at find places)

-- for how many more rows there is room under slots, and in both lists
abbrev pub room_in : Slab Row → Listed → Listed → ℕ
room_in rows paths places = min (rows.capacity - slab_len rows) (min (paths.capacity - length paths.items) (places.capacity - length places.items))
