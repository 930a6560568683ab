use Rattle.std.proofs.Common.{◌≡◌, IfSome, subst, sym, ap, ◌∙◌, All}
use Rattle.md_value.specs.Values.{IsMoment}
use Rattle.md_source.specs.Tree.{File, entries_of}
use Rattle.md_source.specs.declared.tree.Entry.{Entry}
use Rattle.md_source.proofs.Trees.{found-All, found-same}
use Rattle.md_source.proofs.sure_tree.SureTreeTree.find.Goals as goal

pub returns-clause-asked : goal.returns-clause-asked
returns-clause-asked c =
    let same = subst (λ found. IfSome found (λ (file : File). file.0.path ≡ c.args.path.now)) (sym c.in-Some.ensures) (found-same c.deref.result.now c.args.path.now) in
    ap (λ (entry : Entry). entry.path) c.in_ok-found.ensures ∙ same

pub returns-clause-moment : goal.returns-clause-moment
returns-clause-moment c =
    let moments : All (λ entry. IsMoment entry.changed) (entries_of c.deref.result.now) = rw c.deref.ensures.value c.self.invariant.files.moments in
    let moment = subst (λ found. IfSome found (λ (file : File). IsMoment file.0.changed)) (sym c.in-Some.ensures) (found-All (λ entry. IsMoment entry.changed) c.deref.result.now c.args.path.now moments) in
    subst (λ (entry : Entry). IsMoment entry.changed) (sym c.in_ok-found.ensures) moment
