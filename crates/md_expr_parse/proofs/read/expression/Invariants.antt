use Rattle.std.proofs.Common.{◌≡◌, [], false, length}
use Rattle.md_expr_parse.specs.Machine.{run}
use Rattle.md_expr_parse.specs.Resume.{resume}
use Rattle.md_expr_parse.proofs.read.expression.Given as goal

abbrev pub invariant-loop-i : goal.invariant-loop-i
invariant-loop-i l = resume l.builder l.items.items ≡ run false [] [] [] l.initial.items.items

abbrev pub decreases-loop-i : goal.decreases-loop-i
decreases-loop-i l = length l.items.items
