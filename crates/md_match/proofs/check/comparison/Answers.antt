use Rattle.std.proofs.Common.{ap, ◌∙◌}
use Rattle.md_match.specs.Meets.{resolved}
use Rattle.md_match.specs.Satisfies.{values_of, compares}
use Rattle.md_match.proofs.Checks.{some_compares}
use Rattle.md_match.proofs.check.comparison.Goals as goal

pub returns-in_ok-wanted-in_default : goal.returns-in_ok-wanted-in_default
returns-in_ok-wanted-in_default c = λ attrs.
    let l = resolved c.args.local.now.moment c.args.local.now.offset c.args.literal.now in
    some_compares c.args.op c.in_ok-wanted-in_default.wanted l c.in_default.not-NotEqual c.in_ok-wanted-in_default.ensures (values_of c.in_ok-subject.subject attrs)
    ∙ ap (λ s. compares c.args.op l (values_of s attrs)) c.in_ok-subject.ensures
