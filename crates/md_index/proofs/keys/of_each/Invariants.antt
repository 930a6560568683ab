use Rattle.md_index.specs.Keys.{AreKeys}
use Rattle.md_index.proofs.Keying.{HaveKeys}
use Rattle.md_index.proofs.keys.of_each.Given as goal

-- those that are there are right, and each text has its key or is left
abbrev pub invariant-loop-indexed : goal.invariant-loop-indexed
invariant-loop-indexed l = AreKeys l.fold l.marks l.keys × HaveKeys l.fold l.marks l.keys l.values l.indexed-iterator
