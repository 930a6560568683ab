use Rattle.std.proofs.Common.{map, not, sym, ap, ◌∙◌}
use Rattle.std.specs.List.{list_all, list_any}
use Rattle.md_match.specs.Satisfies.{satisfies}
use Rattle.md_match.specs.Ready.{is_satisfied}
use Rattle.md_match.proofs.Trees.{satisfies-Test, satisfies-Not, satisfies-All, satisfies-Any, is_satisfied-Check, is_satisfied-Not, is_satisfied-All, is_satisfied-Any}
use Rattle.md_match.proofs.ready.+made.Goals as goal

pub Ready::of-returns-in_ok-of-in-Test : goal.Ready::of-returns-in_ok-of-in-Test
Ready::of-returns-in_ok-of-in-Test t c = λ attrs.
    is_satisfied-Check attrs c.in_ok-of-in-Test.field-0
    ∙ c.in_ok-of-in-Test.ensures attrs
    ∙ sym (satisfies-Test c.args.local.now.moment c.args.local.now.offset attrs c.in-Test.test)
    ∙ ap (λ e. satisfies c.args.local.now.moment c.args.local.now.offset e attrs) (sym c.in-Test.is)

pub Ready::of-returns-in_ok-new-in-Not : goal.Ready::of-returns-in_ok-new-in-Not
Ready::of-returns-in_ok-new-in-Not t c = λ attrs.
    is_satisfied-Not attrs c.in_ok-new-in-Not.field-0
    ∙ ap not (ap (λ r. is_satisfied r attrs) c.in_ok-new-in-Not.ensures ∙ c.in_ok-inner-in-Not.ensures attrs ∙ ap (λ e. satisfies c.args.local.now.moment c.args.local.now.offset e attrs) c.get.ensures)
    ∙ sym (satisfies-Not c.args.local.now.moment c.args.local.now.offset attrs c.in-Not.inner)
    ∙ ap (λ e. satisfies c.args.local.now.moment c.args.local.now.offset e attrs) (sym c.in-Not.is)

pub Ready::of-returns-in_ok-all_of-in-All : goal.Ready::of-returns-in_ok-all_of-in-All
Ready::of-returns-in_ok-all_of-in-All t c = λ attrs.
    is_satisfied-All attrs c.in_ok-all_of-in-All.field-0
    ∙ ap (list_all (λ is. is)) (c.in_ok-all_of-in-All.ensures attrs ∙ ap (map (λ e. satisfies c.args.local.now.moment c.args.local.now.offset e attrs)) c.as_slice.ensures)
    ∙ sym (satisfies-All c.args.local.now.moment c.args.local.now.offset attrs c.in-All.list)
    ∙ ap (λ e. satisfies c.args.local.now.moment c.args.local.now.offset e attrs) (sym c.in-All.is)

pub Ready::of-returns-in_ok-all_of-in-Any : goal.Ready::of-returns-in_ok-all_of-in-Any
Ready::of-returns-in_ok-all_of-in-Any t c = λ attrs.
    is_satisfied-Any attrs c.in_ok-all_of-in-Any.field-0
    ∙ ap (list_any (λ is. is)) (c.in_ok-all_of-in-Any.ensures attrs ∙ ap (map (λ e. satisfies c.args.local.now.moment c.args.local.now.offset e attrs)) c.as_slice-in-Any.ensures)
    ∙ sym (satisfies-Any c.args.local.now.moment c.args.local.now.offset attrs c.in-Any.list)
    ∙ ap (λ e. satisfies c.args.local.now.moment c.args.local.now.offset e attrs) (sym c.in-Any.is)
