use Rattle.std.proofs.Common.{sym, ◌∙◌}
use Rattle.md_source.proofs.Listings.{IsListing-tested}
use Rattle.md_source.proofs.listing.is_listing.Goals as goal

pub returns-then-are_below : goal.returns-then-are_below
returns-then-are_below c = λ ascending. IsListing-tested c.args.folder.now c.args.entries.now (sym c.are_below.ensures ∙ c.if-are_below.true) (sym c.are_ascending.ensures ∙ ascending)
