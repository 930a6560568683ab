use Rattle.std.proofs.Common.{length}
use Rattle.md_expr_lex.proofs.prefix.+after.Given as goal

abbrev pub decreases-after : goal.decreases-after
decreases-after l = length l.beginning.now
