use Rattle.std.proofs.Common.{◌≡◌, ℕ, ◌+◌, ◌≤◌, ◌++◌, drop, length}
use Rattle.std.specs.Prelude.{Option, None, Some}
use Rattle.md_gather.specs.Hits.{hits_in}
use Rattle.md_gather.proofs.walk.walk.Given as goal

-- so many are no more than are asked for
abbrev AtMost : Option ℕ → ℕ → Type 0
AtMost None count = Unit {0}
AtMost (Some most) count = count ≤ most

-- the hits that are there and those that are left are all, they are no more than are asked for, and each candidate cost a read
abbrev pub invariant-loop-walked : goal.invariant-loop-walked
invariant-loop-walked g l =
    (hits_in l.filter l.store l.version l.left ≡ l.hits.items ++ hits_in l.filter l.store l.version (drop l.walked l.left))
    × AtMost l.most (length l.hits.items)
    × (l.steps ≡ l.initial.steps + l.walked)
