use Rattle.std.proofs.Common.{◌≡◌, ℕ, ◌||◌, List, map, drop}
use Rattle.std.specs.Prelude.{Option}
use Rattle.std.specs.Option.{option_map}
use Rattle.md_world.specs.declared.Row.{Row}
use Rattle.md_match.specs.Candidates.{RowSet, smallest_from, smallest, union}
use Rattle.md_index.specs.Indexed.{Holds, lists}
use Rattle.md_plan.specs.Plans.{plan_set}
use Rattle.md_plan.specs.FoundPlaces.{is_in, places_of, size_of, AreAll, IsFound}
use Rattle.md_plan.proofs.+found.Given as goal

-- the best so far is that of some set, from which the others lead to the smallest
abbrev pub invariant-find::least_within-loop-plan : goal.invariant-find::least_within-loop-plan
invariant-find::least_within-loop-plan l =
    (rows : ℕ → Option Row) (all : List ℕ) → Holds l.index rows → AreAll rows all
    → (set : RowSet) × IsFound l.most (places_of rows all set) (option_map (λ v. v.items) l.best)
    × (smallest_from (size_of rows all) set (map (plan_set (size_of rows all)) (drop l.plan-index l.others)) ≡ smallest (size_of rows all) (map (plan_set (size_of rows all)) l.list))

-- what was joined and what the others have is what all have
abbrev pub invariant-find::union_within-loop-plan : goal.invariant-find::union_within-loop-plan
invariant-find::union_within-loop-plan l =
    (rows : ℕ → Option Row) (all : List ℕ) → Holds l.index rows → AreAll rows all
    → (p : ℕ) → lists l.out.items p || is_in rows (union (map (plan_set (size_of rows all)) (drop l.plan-index l.list))) p ≡ is_in rows (union (map (plan_set (size_of rows all)) l.list)) p
