use Rattle.std.proofs.Common.{◌≡◌, ℕ, ◌||◌}
use Rattle.std.specs.BTreeSet.{keys_between}
use Rattle.md_index.specs.Spans.{bound_at}
use Rattle.md_index.specs.Keys.{keyed_cmp, counted_keyed}
use Rattle.md_index.specs.Indexed.{lists}
use Rattle.md_index.proofs.range.gather_keys.Given as goal

-- what is there and the keys that are left
abbrev pub invariant-loop-keyed : goal.invariant-loop-keyed
invariant-loop-keyed l =
    (goal.iterator-loop-keyed).can_next l.keyed-iterator
    × (goal.iterator-loop-keyed).is_finite l.keyed-iterator
    × ((p : ℕ) → lists l.out.items p || counted_keyed l.probe l.values l.keyed-iterator p
    ≡ lists l.initial.out.items p || counted_keyed l.probe l.values (keys_between keyed_cmp (bound_at l.stretch.low) (bound_at l.stretch.high) l.keys) p)
