use Rattle.std.proofs.Common.{ap, ◌∙◌}
use Rattle.md_live.specs.Actions.{actions_of}
use Rattle.md_live.specs.Telling.{Telling}
use Rattle.md_live.proofs.Telling.{known_all}
use Rattle.md_live.proofs.runs.run_given.Goals as goal

pub returns : goal.returns
returns c =
    c.into_report.ensures
    ∙ ap (λ (t : Telling). t.report) c.in_ok-session.ensures
    ∙ known_all (actions_of c.args.start.now.moment c.args.start.now.offset c.args.lines.now c.args.givens.items)
