use Rattle.std.proofs.Common.{◌≡◌, ℕ, ◌||◌}
use Rattle.md_index.specs.Indexed.{lists, in_block, from_bit}
use Rattle.md_index.proofs.blocks.push_bits.Given as goal

-- what is there and what is left of the block
abbrev pub invariant-loop-bit : goal.invariant-loop-bit
invariant-loop-bit l = (p : ℕ) → lists l.places.items p || from_bit l.bit (l.block, l.word) p ≡ lists l.initial.places.items p || in_block (l.block, l.word) p
