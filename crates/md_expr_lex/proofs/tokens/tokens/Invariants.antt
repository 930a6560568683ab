use Rattle.std.proofs.Common.{length}
use Rattle.md_expr_lex.proofs.Derive.{Leaves}
use Rattle.md_expr_lex.proofs.tokens.tokens.Given as goal

abbrev pub invariant-loop-c : goal.invariant-loop-c
invariant-loop-c l = Leaves l.fn.text l.tokens.items l.rest

abbrev pub decreases-loop-c : goal.decreases-loop-c
decreases-loop-c l = length l.rest
