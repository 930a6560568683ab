use Rattle.std.proofs.Common.{◌≡◌, take}
use Rattle.md_expr_tree.proofs.tree.+copy.Given as goal

abbrev pub invariant-copy_all-loop-e : goal.invariant-copy_all-loop-e
invariant-copy_all-loop-e l = l.all ≡ take l.e-index l.list
