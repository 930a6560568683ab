use Rattle.std.proofs.Common.{map, sym, ap, ◌∙◌}
use Rattle.md_match.specs.Candidates.{smallest, union, candidate}
use Rattle.md_plan.proofs.Trees.{plan_set-All, plan_set-Least, plan_set-Union, candidate-Not, candidate-All, candidate-Any}
use Rattle.md_plan.proofs.plan.+made.Goals as goal

pub of_expr-returns-in-Not : goal.of_expr-returns-in-Not
of_expr-returns-in-Not t c = λ size.
    let now = c.args.local.now.moment in
    let offset = c.args.local.now.offset in
    plan_set-All size ∙ sym (candidate-Not size now offset c.in-Not.field-0) ∙ ap (candidate size now offset) (sym c.in-Not.is)

pub of_expr-returns-in_ok-all_of-in-All : goal.of_expr-returns-in_ok-all_of-in-All
of_expr-returns-in_ok-all_of-in-All t c = λ size.
    let now = c.args.local.now.moment in
    let offset = c.args.local.now.offset in
    plan_set-Least size c.in_ok-all_of-in-All.field-0
    ∙ ap (smallest size) (c.in_ok-all_of-in-All.ensures size ∙ ap (map (candidate size now offset)) c.as_slice.ensures)
    ∙ sym (candidate-All size now offset c.in-All.list)
    ∙ ap (candidate size now offset) (sym c.in-All.is)

pub of_expr-returns-in_ok-all_of-in-Any : goal.of_expr-returns-in_ok-all_of-in-Any
of_expr-returns-in_ok-all_of-in-Any t c = λ size.
    let now = c.args.local.now.moment in
    let offset = c.args.local.now.offset in
    plan_set-Union size c.in_ok-all_of-in-Any.field-0
    ∙ ap union (c.in_ok-all_of-in-Any.ensures size ∙ ap (map (candidate size now offset)) c.as_slice-in-Any.ensures)
    ∙ sym (candidate-Any size now offset c.in-Any.list)
    ∙ ap (candidate size now offset) (sym c.in-Any.is)
