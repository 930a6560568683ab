use Rattle.std.proofs.Common.{sym, ◌∙◌}
use Rattle.md_source.proofs.Listings.{ascending_short}
use Rattle.md_source.proofs.listing.are_ascending.Goals as goal

pub returns : goal.returns
returns c = sym (c.loop-rest.invariant ∙ ascending_short c.loop-rest.rest.now c.in_default.len_below)
