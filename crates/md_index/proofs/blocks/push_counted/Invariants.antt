use Rattle.std.proofs.Common.{◌≡◌, ℕ, ◌||◌}
use Rattle.md_index.specs.Indexed.{lists, in_blocks}
use Rattle.md_index.proofs.blocks.push_counted.Given as goal

-- what is there and the blocks that are left
abbrev pub invariant-loop-block : goal.invariant-loop-block
invariant-loop-block l = (p : ℕ) → lists l.places.items p || in_blocks l.block-iterator p ≡ lists l.initial.places.items p || in_blocks l.blocks.entries p
