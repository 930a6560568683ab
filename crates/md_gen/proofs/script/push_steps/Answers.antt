use Rattle.md_gen.proofs.More.{steps_more}
use Rattle.md_gen.proofs.script.push_steps.Goals as goal

pub loop-i-preserved : goal.loop-i-preserved
loop-i-preserved c =
    rw (c.in_ok-push_step.ensures.text, c.in_ok-push_step.ensures.draws)
    (steps_more c.args.files.now _ _ _ _ _ c.loop-i-test.true c.loop-i.invariant)
