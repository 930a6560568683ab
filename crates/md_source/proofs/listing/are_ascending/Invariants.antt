use Rattle.std.proofs.Common.{◌≡◌, length}
use Rattle.md_source.specs.Listing.{is_ascending}
use Rattle.md_source.proofs.listing.are_ascending.Given as goal

abbrev pub invariant-loop-rest : goal.invariant-loop-rest
invariant-loop-rest l = is_ascending l.entries ≡ is_ascending l.rest

abbrev pub decreases-loop-rest : goal.decreases-loop-rest
decreases-loop-rest l = length l.rest
