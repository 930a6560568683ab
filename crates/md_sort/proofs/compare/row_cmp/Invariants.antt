use Rattle.std.specs.Prelude.{◌≡◌, drop}
use Rattle.md_world.specs.Orders.{row_cmp}
use Rattle.md_sort.proofs.compare.row_cmp.Given as goal

-- the keys so far tie
abbrev pub invariant-loop-key : goal.invariant-loop-key
invariant-loop-key l = row_cmp l.keys l.a l.b ≡ row_cmp (drop l.key-index l.keys) l.a l.b
