use Rattle.std.proofs.Common.{◌≡◌, drop}
use Rattle.md_source.specs.Tree.{file_at}
use Rattle.md_source.proofs.sure_tree.file_at.Given as goal

abbrev pub invariant-loop-file : goal.invariant-loop-file
invariant-loop-file l = file_at l.files l.path ≡ file_at (drop l.file-index l.files) l.path
