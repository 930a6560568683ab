use Rattle.md_script.proofs.Expressions.{expression_reads}
use Rattle.md_script.proofs.laws.expressions_are_read.Goals as goal

pub returns : goal.returns
returns c = expression_reads
