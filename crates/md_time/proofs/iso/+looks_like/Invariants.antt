use Rattle.std.proofs.Common.{length}
use Rattle.md_time.proofs.iso.+looks_like.Given as goal

abbrev pub decreases-looks_like : goal.decreases-looks_like
decreases-looks_like l = length l.picture.now
