use Rattle.std.proofs.Common.{◌≡◌, ◌≤◌, length, take}
use Rattle.md_jobs.specs.Reading.{Reads}
use Rattle.md_jobs.proofs.read.read_all.Given as goal

abbrev pub invariant-loop-line : goal.invariant-loop-line
invariant-loop-line g l = record {
  content : g.T.Tree.content l.tree ≡ g.T.Tree.content l.initial.tree;
  later : g.T.Tree.failures l.initial.tree ≤ g.T.Tree.failures l.tree;
  few : length l.jobs.items ≤ l.line-index;
  so : Reads (g.T.Tree.content l.initial.tree) (g.T.Tree.failures l.initial.tree) (g.T.Tree.failures l.tree) l.start.moment l.start.offset (take l.line-index l.lines) l.jobs.items;
}
