use Rattle.md_files.proofs.Counting.{asked_counted}
use Rattle.md_files.proofs.laws.an_asking_is_counted.Goals as goal

pub returns : goal.returns
returns c = asked_counted
