use Rattle.std.proofs.Common.{◌≡◌, ◌≤◌, take}
use Rattle.md_files.specs.Folders.{AreRead}
use Rattle.md_find.specs.Files.{entries_of, answers_of}
use Rattle.md_find.proofs.reading.read_files.Given as goal

-- the entries so far were read
abbrev pub invariant-loop-entry : goal.invariant-loop-entry
invariant-loop-entry g l = record {
  entries : entries_of l.files.items ≡ take l.entry-index l.entries;
  read : AreRead (g.T.Tree.content l.initial.tree) (g.T.Tree.failures l.initial.tree) (g.T.Tree.failures l.tree) (take l.entry-index l.entries) (answers_of l.files.items);
  content : g.T.Tree.content l.tree ≡ g.T.Tree.content l.initial.tree;
  later : g.T.Tree.failures l.initial.tree ≤ g.T.Tree.failures l.tree;
}
