use Rattle.std.proofs.Common.{length}
use Rattle.md_pages.proofs.paged.+remove_in.Given as goal

abbrev pub decreases-remove_in : goal.decreases-remove_in
decreases-remove_in l = length l.pages.now
