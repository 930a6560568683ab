use Rattle.md_plan.proofs.Trees.{wide_set}
use Rattle.md_plan.proofs.plan.of_other.Goals as goal

pub returns : goal.returns
returns c size = wide_set size c.args.local.now.moment c.args.local.now.offset c.args.test.now c.requires
