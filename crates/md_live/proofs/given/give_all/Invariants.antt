use Rattle.std.proofs.Common.{◌≡◌, ◌≤◌, take}
use Rattle.md_live.specs.Given.{AreGiven}
use Rattle.md_live.proofs.given.give_all.Given as goal

abbrev pub invariant-loop-line : goal.invariant-loop-line
invariant-loop-line g l = record {
  content : g.T.Tree.content l.tree ≡ g.T.Tree.content l.initial.tree;
  later : g.T.Tree.failures l.initial.tree ≤ g.T.Tree.failures l.tree;
  given : AreGiven l.offset (g.T.Tree.content l.initial.tree) (g.T.Tree.failures l.initial.tree) (g.T.Tree.failures l.tree) (take l.line-index l.lines) l.givens.items;
}
