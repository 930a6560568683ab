use Rattle.md_expr_print.proofs.Again.{read_again}
use Rattle.md_expr_print.proofs.laws.spelling_reads_back.Goals as goal

pub returns : goal.returns
returns c = read_again c.args.expr.now
