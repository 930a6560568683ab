use Rattle.std.proofs.Common.{◌≡◌, ◌≤◌, ◌++◌, List, length}
use Rattle.md_source.specs.declared.tree.Entry.{Entry}
use Rattle.md_find.proofs.Gathered.{Gathers}
use Rattle.md_find.proofs.finding.find_by.Given as goal

-- the batches so far were gathered
abbrev pub invariant-loop-rest : goal.invariant-loop-rest
invariant-loop-rest g l =
    (done : List Entry)
    × (done ++ l.rest ≡ l.entries)
    × Gathers (g.T.Tree.content l.initial.tree) (g.T.Tree.failures l.initial.tree) (g.T.Tree.failures l.tree) l.fn.filter done l.report l.hits.items
    × (g.T.Tree.content l.tree ≡ g.T.Tree.content l.initial.tree)
    × (g.T.Tree.failures l.initial.tree ≤ g.T.Tree.failures l.tree)

abbrev pub decreases-loop-rest : goal.decreases-loop-rest
decreases-loop-rest g l = length l.rest
