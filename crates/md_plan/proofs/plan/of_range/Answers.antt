use Rattle.std.proofs.Common.{sym, ap, ◌∙◌}
use Rattle.md_expr_tree.specs.declared.tree.Test.TheVariants as test
use Rattle.md_plan.specs.Plans.{some_set}
use Rattle.md_plan.proofs.Trees.{range_set, narrow_set}
use Rattle.md_plan.proofs.plan.of_range.Goals as goal

pub returns : goal.returns
returns c = λ size.
    let name = c.args.name.now in
    let now = c.args.local.now.moment in
    let offset = c.args.local.now.offset in
    c.found.ensures size ∙ ap some_set c.in_ok-probe.ensures ∙ range_set name now offset c.args.least.now c.args.greatest.now c.requires
    ∙ sym (narrow_set size now offset (test.Range name c.args.least.now c.args.greatest.now) c.requires)
