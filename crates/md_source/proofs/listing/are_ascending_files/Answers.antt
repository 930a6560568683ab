use Rattle.std.proofs.Common.{sym, ◌∙◌}
use Rattle.md_source.proofs.Listings.{ascending_short_files}
use Rattle.md_source.proofs.listing.are_ascending_files.Goals as goal

pub returns : goal.returns
returns c = sym (c.loop-rest.invariant ∙ ascending_short_files c.loop-rest.rest.now c.in_default.len_below)
