use Rattle.std.proofs.Common.{ap, ◌∙◌}
use Rattle.md_expr_tree.specs.declared.tree.Subject.TheVariants as subject
use Rattle.md_match.specs.Meets.{resolved}
use Rattle.md_match.specs.Satisfies.{values_of, has_between}
use Rattle.md_match.proofs.Checks.{some_between}
use Rattle.md_match.proofs.check.range.Goals as goal

pub returns : goal.returns
returns c = λ attrs.
    let low = resolved c.args.local.now.moment c.args.local.now.offset c.args.least.now in
    let high = resolved c.args.local.now.moment c.args.local.now.offset c.args.greatest.now in
    some_between c.in_ok-least.least c.in_ok-greatest.greatest low high c.in_ok-least.ensures c.in_ok-greatest.ensures (values_of (subject.Named c.in_ok-name.name) attrs)
    ∙ ap (λ n. has_between low high (values_of (subject.Named n) attrs)) c.in_ok-name.ensures
