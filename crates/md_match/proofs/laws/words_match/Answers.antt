use Rattle.std.proofs.Common.{map}
use Rattle.md_text.specs.Key.{key}
use Rattle.md_text.proofs.Wilds.{wild-Decides}
use Rattle.md_match.proofs.laws.words_match.Goals as goal

pub returns : goal.returns
returns c = λ pieces fold marks text. wild-Decides (map (key fold marks) pieces) (key fold marks text)
