use Rattle.std.proofs.Common.{sym, ◌∙◌}
use Rattle.md_source.specs.Tree.{entries_of}
use Rattle.md_source.proofs.Listings.{IsListing-of_root}
use Rattle.md_source.proofs.listing.have_distinct_paths.Goals as goal

pub returns-then-are_files-clause-listing : goal.returns-then-are_files-clause-listing
returns-then-are_files-clause-listing c = λ ascending. IsListing-of_root (entries_of c.args.files.now) (sym c.are_files.ensures ∙ c.if-are_files.true) (sym c.are_ascending_files.ensures ∙ ascending)
