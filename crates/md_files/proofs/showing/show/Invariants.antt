use Rattle.std.proofs.Common.{◌≡◌, ◌≤◌, take}
use Rattle.md_files.proofs.ShownFiles.{IsShowing}
use Rattle.md_files.proofs.showing.show.Given as goal

abbrev pub invariant-loop-path : goal.invariant-loop-path
invariant-loop-path g l = record {
  content : g.T.Tree.content l.tree ≡ g.T.Tree.content l.initial.tree;
  later : g.T.Tree.failures l.initial.tree ≤ g.T.Tree.failures l.tree;
  shows : IsShowing (g.T.Tree.content l.initial.tree) (g.T.Tree.failures l.initial.tree) (g.T.Tree.failures l.tree) l.offset l.raw l.marker l.names (take l.path-index l.files) l.report l.some;
}
