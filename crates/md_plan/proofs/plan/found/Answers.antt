use Rattle.std.proofs.Common.{rules, ◌≡◌, sym, ap, ◌∙◌}
use Rattle.std.specs.Prelude.{Some, None}
use Rattle.md_plan.specs.Plans.{some_set}
use Rattle.md_plan.proofs.Trees.{plan_set-Probe, none_found}
use Rattle.md_plan.proofs.plan.found.Goals as goal

pub returns-in-Some : goal.returns-in-Some
returns-in-Some c size =
    let is : c.args.probe ≡ Some c.in-Some.probe = search rules in
    plan_set-Probe size c.in-Some.probe ∙ ap some_set (sym is)

pub returns-in-None : goal.returns-in-None
returns-in-None c size =
    let is : c.args.probe ≡ None = search rules in
    ap (λ plans. Rattle.md_plan.specs.Plans.plan_set size (Rattle.md_plan.specs.declared.plan.Plan.TheVariants.Union plans)) c.new.ensures ∙ none_found size ∙ ap some_set (sym is)
