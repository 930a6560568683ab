use Rattle.md_expr.proofs.Verdicts.{read_back}
use Rattle.md_expr.proofs.reading.printed_is_read.Goals as goal

pub returns : goal.returns
returns c = read_back c.args.expr.now c.args.text.now
