use Rattle.md_expr_parse.proofs.Loops.{added}
use Rattle.md_expr_parse.proofs.read.items.Goals as goal

pub loop-first-preserved : goal.loop-first-preserved
loop-first-preserved c = added _ _ _ _ _ _ _ _ c.loop-first.invariant c.in-Some.ensures c.in-Some-item.ensures c.in_ok-push-in-Some-item.ensures.items
