use Rattle.md_live.proofs.Counting.{are_given_counted}
use Rattle.md_live.proofs.laws.askings_are_counted.Goals as goal

pub returns : goal.returns
returns c = are_given_counted
