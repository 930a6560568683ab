use Rattle.md_expr.proofs.Verdicts.{is_one_verdict}
use Rattle.md_expr.proofs.reading.one_verdict.Goals as goal

pub returns : goal.returns
returns c = is_one_verdict c.args.text.now
