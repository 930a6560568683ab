use Rattle.std.proofs.Common.{not, ap, ◌∙◌}
use Rattle.md_match.specs.Ready.{is_satisfied}
use Rattle.md_match.proofs.Trees.{is_satisfied-Check, is_satisfied-Not, is_satisfied-every, is_satisfied-some}
use Rattle.md_match.proofs.ready.+tested.Goals as goal

pub Ready::is_satisfied-returns-in-Check : goal.Ready::is_satisfied-returns-in-Check
Ready::is_satisfied-returns-in-Check t c = rw (c.in-Check.is, is_satisfied-Check c.args.attrs.now c.in-Check.check) c.holds.ensures

pub Ready::is_satisfied-returns-in_ok-is_satisfied-in-Not : goal.Ready::is_satisfied-returns-in_ok-is_satisfied-in-Not
Ready::is_satisfied-returns-in_ok-is_satisfied-in-Not t c =
    rw (c.in-Not.is, is_satisfied-Not c.args.attrs.now c.in-Not.inner)
    (ap not (c.in_ok-is_satisfied-in-Not.ensures ∙ ap (λ r. is_satisfied r c.args.attrs.now) c.get.ensures))

pub Ready::is_satisfied-returns-in-All : goal.Ready::is_satisfied-returns-in-All
Ready::is_satisfied-returns-in-All t c = rw (c.in-All.is, is_satisfied-every c.args.attrs.now c.in-All.list, ← c.as_slice.ensures) c.all_satisfied.ensures

pub Ready::is_satisfied-returns-in-Any : goal.Ready::is_satisfied-returns-in-Any
Ready::is_satisfied-returns-in-Any t c = rw (c.in-Any.is, is_satisfied-some c.args.attrs.now c.in-Any.list, ← c.as_slice-in-Any.ensures) c.some_satisfied.ensures
