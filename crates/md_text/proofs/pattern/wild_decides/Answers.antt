use Rattle.md_text.proofs.Wilds.{wild-Decides}
use Rattle.md_text.proofs.pattern.wild_decides.Goals as goal

pub returns : goal.returns
returns c = wild-Decides
