use Rattle.std.proofs.Common.{◌≡◌, drop}
use Rattle.std.specs.List.{list_all}
use Rattle.md_source.specs.Listing.{is_below}
use Rattle.md_source.proofs.listing.are_below.Given as goal

abbrev pub invariant-loop-entry : goal.invariant-loop-entry
invariant-loop-entry l = list_all (is_below l.folder) l.entries ≡ list_all (is_below l.folder) (drop l.entry-index l.entries)
