use Rattle.std.proofs.Common.{◌≡◌, ◌≤◌, take}
use Rattle.md_files.specs.Additions.{CountsFiles}
use Rattle.md_files.proofs.importing.import_files.Given as goal

abbrev pub invariant-loop-entry : goal.invariant-loop-entry
invariant-loop-entry g l = record {
  content : g.T.Tree.content l.tree ≡ g.T.Tree.content l.initial.tree;
  later : g.T.Tree.failures l.initial.tree ≤ g.T.Tree.failures l.tree;
  counts : CountsFiles (g.T.Tree.content l.initial.tree) (g.T.Tree.failures l.initial.tree) (g.T.Tree.failures l.tree) l.offset (take l.entry-index l.entries) l.initial.report l.report;
}
