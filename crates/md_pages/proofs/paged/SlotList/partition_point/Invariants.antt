use Rattle.std.proofs.Common.{◌≡◌, ℕ, ◌-◌, ◌^◌, ◌<◌, ◌≤◌, Bool, length}
use Rattle.std.specs.List.Sorted.{IsPartitionedBy}
use Rattle.md_pages.proofs.Pages.{Narrowed}
use Rattle.md_pages.proofs.paged.SlotList.partition_point.Given as goal

-- the place lies between the two
abbrev pub invariant-loop-low : goal.invariant-loop-low
invariant-loop-low g l = (l.low ≤ l.high) × (l.high ≤ length l.self.items) × ((test : ℕ → Bool) → ((slot : ℕ) (passed : Bool) → slot < 2 ^ 64 → g.P.Fn.post l.passes (slot, tt) passed → passed ≡ test slot) → IsPartitionedBy test l.self.items → Narrowed test l.self.items l.low l.high)

abbrev pub decreases-loop-low : goal.decreases-loop-low
decreases-loop-low g l = l.high - l.low
