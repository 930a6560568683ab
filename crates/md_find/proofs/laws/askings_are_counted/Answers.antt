use Rattle.md_find.proofs.Counting.{folder_counted}
use Rattle.md_find.proofs.laws.askings_are_counted.Goals as goal

pub returns : goal.returns
returns c = folder_counted
