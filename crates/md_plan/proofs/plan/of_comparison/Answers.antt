use Rattle.std.proofs.Common.{sym, ap, ◌∙◌}
use Rattle.md_expr_tree.specs.declared.tree.Subject.TheVariants as subject
use Rattle.md_expr_tree.specs.declared.tree.Test.TheVariants as test
use Rattle.md_plan.specs.Plans.{some_set}
use Rattle.md_plan.proofs.Trees.{compare_set, narrow_set}
use Rattle.md_plan.proofs.plan.of_comparison.Goals as goal

pub returns : goal.returns
returns c = λ size.
    let name = c.args.name.now in
    let now = c.args.local.now.moment in
    let offset = c.args.local.now.offset in
    c.found.ensures size ∙ ap some_set c.in_ok-probe.ensures ∙ compare_set name now offset c.args.op c.args.literal.now c.requires
    ∙ sym (narrow_set size now offset (test.Compare (subject.Named name) c.args.op c.args.literal.now) c.requires)
