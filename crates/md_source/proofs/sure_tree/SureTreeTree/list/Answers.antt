use Rattle.md_source.proofs.Trees.{IsListing-below}
use Rattle.md_source.proofs.sure_tree.SureTreeTree.list.Goals as goal

pub returns-clause-listing : goal.returns-clause-listing
returns-clause-listing c = rw (c.in_ok-entries.ensures, c.deref-2.ensures.value) (IsListing-below c.self.inside.files.items c.args.folder.now c.self.invariant.files)
