use Rattle.std.proofs.Common.{◌≡◌, ◌++◌}
use Rattle.std.specs.List.{filter_map}
use Rattle.std.specs.Vec.Iter.{into_iter_items}
use Rattle.md_find.specs.Files.{hit_of}
use Rattle.md_find.proofs.finding.keep.Given as goal

-- the hits among the files so far are kept
abbrev pub invariant-loop-file : goal.invariant-loop-file
invariant-loop-file l = record {
  prefix : l.yielded ++ into_iter_items l.file-iterator ≡ l.fn.files.items;
  kept : l.hits.items ≡ l.initial.hits.items ++ filter_map hit_of l.yielded;
}
