use Rattle.md_files.proofs.Counting.{are_asked_counted}
use Rattle.md_files.proofs.laws.askings_are_counted.Goals as goal

pub returns : goal.returns
returns c = are_asked_counted
