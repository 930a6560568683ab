use Rattle.std.proofs.Common.{[], false, ap, ◌∙◌}
use Rattle.md_expr_parse.specs.Machine.{run}
use Rattle.md_expr_parse.proofs.Loops.{stepped, stuck}
use Rattle.md_expr_parse.proofs.read.expression.Goals as goal

pub loop-i-preserved : goal.loop-i-preserved
loop-i-preserved c = stepped c.loop-i.builder _ _ _ _ _ _ c.loop-i.invariant c.in-Some.ensures c.in_ok-next.ensures c.in-Some-2.is

pub returns-in-None : goal.returns-in-None
returns-in-None c = stuck c.loop-i.builder _ _ _ _ _ c.loop-i.invariant c.in-Some.ensures c.in_ok-next.ensures c.in-None.is ∙ ap (run false [] [] []) c.from-items.ensures.0
