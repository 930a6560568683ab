use Rattle.std.proofs.Common.{◌≡◌, ◌≤◌, take}
use Rattle.md_files.specs.Reports.{Imports}
use Rattle.md_files.proofs.importing.import.Given as goal

abbrev pub invariant-loop-path : goal.invariant-loop-path
invariant-loop-path g l = record {
  content : g.T.Tree.content l.tree ≡ g.T.Tree.content l.initial.tree;
  later : g.T.Tree.failures l.initial.tree ≤ g.T.Tree.failures l.tree;
  imports : Imports (g.T.Tree.content l.initial.tree) (g.T.Tree.failures l.initial.tree) (g.T.Tree.failures l.tree) l.offset (take l.path-index l.files) l.report;
}
