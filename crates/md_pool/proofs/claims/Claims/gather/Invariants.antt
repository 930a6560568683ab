use Rattle.std.proofs.Common.{◌≡◌, ◌++◌, List, All}
use Rattle.md_pool.specs.Claims.{Drawer}
use Rattle.md_pool.specs.Rules.{Gathered}
use Rattle.md_pool.proofs.claims.Claims.gather.Given as goal

abbrev pub invariant-loop-seat : goal.invariant-loop-seat
invariant-loop-seat l =
    (l.all.id ≡ l.self.id) × All (λ (s : Drawer). s.id ≡ l.self.id) l.seats.items
    × ((taken : List Drawer) × (l.fn.seats.items ≡ l.seats.items ++ taken) × Gathered taken l.all)

abbrev pub decreases-loop-seat : goal.decreases-loop-seat
decreases-loop-seat l = goal.left-loop-seat l
