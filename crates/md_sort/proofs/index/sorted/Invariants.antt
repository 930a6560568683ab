use Rattle.std.proofs.Common.{◌≡◌, ◌≤◌, length, take}
use Rattle.std.specs.List.Sorted.{IsPermutation}
use Rattle.slab.specs.Slab.{get}
use Rattle.md_world.specs.Orders.{IsOrdered}
use Rattle.md_sort.specs.Slots.{rows_at, AllHeld}
use Rattle.md_sort.proofs.index.sorted.Given as goal

-- the slots so far are sorted
abbrev pub invariant-loop-place : goal.invariant-loop-place
invariant-loop-place l =
    AllHeld (get l.rows) l.sorted.items × IsOrdered l.keys (rows_at (get l.rows) l.sorted.items) × IsPermutation (rows_at (get l.rows) (take l.place l.paths.items)) (rows_at (get l.rows) l.sorted.items)
    × (length l.sorted.items ≡ l.place) × (l.places.capacity ≤ l.sorted.capacity) × (length l.places.items ≤ l.sorted.capacity)
