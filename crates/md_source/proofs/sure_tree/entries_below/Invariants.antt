use Rattle.std.proofs.Common.{◌≡◌, ◌++◌, drop}
use Rattle.md_source.specs.Tree.{entries_below}
use Rattle.md_source.proofs.sure_tree.entries_below.Given as goal

abbrev pub invariant-loop-entry : goal.invariant-loop-entry
invariant-loop-entry l = l.entries.items ++ entries_below (drop l.entry-index l.files) l.folder ≡ entries_below l.files l.folder
