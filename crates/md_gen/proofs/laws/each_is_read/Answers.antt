use Rattle.md_gen.proofs.Scripted.{each_read}
use Rattle.md_gen.proofs.laws.each_is_read.Goals as goal

pub returns : goal.returns
returns c = each_read
