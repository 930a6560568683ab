use Rattle.std.proofs.Common.{◌≡◌, drop}
use Rattle.std.specs.List.{list_all}
use Rattle.md_source.specs.Listing.{is_file}
use Rattle.md_source.specs.Tree.{entries_of}
use Rattle.md_source.proofs.listing.are_files.Given as goal

abbrev pub invariant-loop-entry : goal.invariant-loop-entry
invariant-loop-entry l = list_all is_file (entries_of l.files) ≡ list_all is_file (entries_of (drop l.entry-index l.files))
