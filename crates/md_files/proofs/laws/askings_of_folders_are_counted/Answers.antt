use Rattle.md_files.proofs.Counting.{are_found_counted}
use Rattle.md_files.proofs.laws.askings_of_folders_are_counted.Goals as goal

pub returns : goal.returns
returns c = are_found_counted
