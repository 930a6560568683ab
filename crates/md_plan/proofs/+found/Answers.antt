use Rattle.std.proofs.Common.{rules, ◌≡◌, ◌||◌, map, sym, ap, subst, ◌∙◌, arith}
use Rattle.std.specs.Prelude.{Some, None}
use Rattle.std.specs.Option.{option_map}
use Rattle.std.proofs.lemmas.Result.{IfOk-weaker}
use Rattle.md_match.specs.Candidates.{smaller, smallest, union}
use Rattle.md_index.specs.Indexed.{lists}
use Rattle.md_plan.specs.Plans.{plan_set}
use Rattle.md_plan.specs.FoundPlaces.{is_in, places_of, size_of, IsFound}
use Rattle.md_plan.proofs.Trees.{plan_set-All, plan_set-Probe, plan_set-Least, plan_set-Union}
use Rattle.md_plan.proofs.Sets.{least_none, least_begun, least_more, least_end, smaller_places, union_more, union_over, union_end, in_rows}
use Rattle.md_plan.proofs.+found.Goals as goal

pub find::least_within-returns-in_default : goal.find::least_within-returns-in_default
find::least_within-returns-in_default t c =
    IfOk-weaker c.all_within.result _ _
    (λ found is rows all holds are.
    subst (λ set. IsFound c.args.most (places_of rows all set) (option_map (λ v. v.items) found)) (least_none (size_of rows all) c.args.list.now c.in_default.len_below) (is rows all holds are))
    c.all_within.ensures

pub find::least_within-loop-plan-init : goal.find::least_within-loop-plan-init
find::least_within-loop-plan-init t c = λ rows all holds are. (
  plan_set (size_of rows all) c.first-item.result,
  c.in_ok-best.ensures rows all holds are,
  least_begun (size_of rows all) c.args.list.now c.first-item.result c.in-len1-up.len_at_least c.first-item.is,
)

pub find::least_within-loop-plan-preserved : goal.find::least_within-loop-plan-preserved
find::least_within-loop-plan-preserved t c = λ rows all holds are.
    let before = c.loop-plan.invariant rows all holds are in
    let size = size_of rows all in
    let plan = c.plan-item.result in (
      smaller size before.0 (plan_set size plan),
      subst (λ xs. IsFound c.args.most xs (option_map (λ v. v.items) c.fewer-best.result)) (smaller_places rows all before.0 (plan_set size plan))
          (c.fewer-best.ensures c.args.most (places_of rows all before.0) (places_of rows all (plan_set size plan)) before.1 (c.in_ok-found.ensures rows all holds are)),
      least_more size _ c.loop-plan.plan-index plan before.0 _ (omega arith) c.plan-item.is before.2,
    )

pub find::least_within-returns : goal.find::least_within-returns
find::least_within-returns t c = λ rows all holds are.
    let last = c.loop-plan.invariant rows all holds are in
    subst (λ set. IsFound c.args.most (places_of rows all set) (option_map (λ v. v.items) c.loop-plan.best)) (least_end (size_of rows all) _ c.loop-plan.plan-index last.0 _ (search rules) last.2) last.1

pub find::union_within-returns : goal.find::union_within-returns
find::union_within-returns t c = λ rows all holds are.
    let set = union (map (plan_set (size_of rows all)) c.args.list.now) in
    c.joined.ensures all (is_in rows set) are.rising (in_rows rows all are set)
    (union_end rows all are c.args.list.now c.loop-plan.plan-index c.loop-plan.out.items (search rules) (c.loop-plan.invariant rows all holds are))

pub find::union_within-returns-in_default : goal.find::union_within-returns-in_default
find::union_within-returns-in_default t c = λ rows all holds are.
    let plan = c.plan-item.result in
    let size = size_of rows all in
    let is : c.in_ok-found.found ≡ None = search rules in
    union_over rows all are c.args.list.now c.loop-plan.plan-index plan c.loop-plan.out.items c.args.most (omega arith) c.plan-item.is (c.loop-plan.invariant rows all holds are)
    (subst (λ found. IsFound c.args.most (places_of rows all (plan_set size plan)) (option_map (λ v. v.items) found)) is (c.in_ok-found.ensures rows all holds are))

pub find::union_within-loop-plan-preserved : goal.find::union_within-loop-plan-preserved
find::union_within-loop-plan-preserved t c = λ rows all holds are p.
    let plan = c.plan-item.result in
    let size = size_of rows all in
    let found : IsFound c.args.most (places_of rows all (plan_set size plan)) (Some c.in-Some.places.items) =
    subst (λ found. IsFound c.args.most (places_of rows all (plan_set size plan)) (option_map (λ v. v.items) found)) c.in-Some.is (c.in_ok-found.ensures rows all holds are) in
    let items : c.deref.result.now ≡ c.in-Some.places.items = search rules in
    union_more rows all are c.args.list.now c.loop-plan.plan-index plan c.loop-plan.out.items c.join.new.out.items c.in-Some.places.items p (omega arith) c.plan-item.is found.0
    (c.in_ok-join.ensures p ∙ ap (λ xs. lists c.loop-plan.out.items p || lists xs p) items) (c.loop-plan.invariant rows all holds are p)

pub plan::Plan::within-returns-in-All : goal.plan::Plan::within-returns-in-All
plan::Plan::within-returns-in-All t c =
    IfOk-weaker c.all_within.result _ _
    (λ found is rows all holds are.
    subst (λ set. IsFound c.args.most (places_of rows all set) (option_map (λ v. v.items) found)) (sym (ap (plan_set (size_of rows all)) c.in-All.is ∙ plan_set-All (size_of rows all))) (is rows all holds are))
    c.all_within.ensures

pub plan::Plan::within-returns-in-Probe : goal.plan::Plan::within-returns-in-Probe
plan::Plan::within-returns-in-Probe t c =
    IfOk-weaker c.probe_within.result _ _
    (λ found is rows all holds are.
    subst (λ set. IsFound c.args.most (places_of rows all set) (option_map (λ v. v.items) found)) (sym (ap (plan_set (size_of rows all)) c.in-Probe.is ∙ plan_set-Probe (size_of rows all) c.in-Probe.probe)) (is rows all holds are))
    c.probe_within.ensures

pub plan::Plan::within-returns-in-Least : goal.plan::Plan::within-returns-in-Least
plan::Plan::within-returns-in-Least t c =
    IfOk-weaker c.least_within.result _ _
    (λ found is rows all holds are.
    subst (λ set. IsFound c.args.most (places_of rows all set) (option_map (λ v. v.items) found))
    (sym (ap (plan_set (size_of rows all)) c.in-Least.is ∙ plan_set-Least (size_of rows all) c.in-Least.list ∙ ap (λ plans. smallest (size_of rows all) (map (plan_set (size_of rows all)) plans)) (sym c.as_slice.ensures)))
    (is rows all holds are))
    c.least_within.ensures

pub plan::Plan::within-returns-in-Union : goal.plan::Plan::within-returns-in-Union
plan::Plan::within-returns-in-Union t c =
    IfOk-weaker c.union_within.result _ _
    (λ found is rows all holds are.
    subst (λ set. IsFound c.args.most (places_of rows all set) (option_map (λ v. v.items) found))
    (sym (ap (plan_set (size_of rows all)) c.in-Union.is ∙ plan_set-Union (size_of rows all) c.in-Union.list ∙ ap (λ plans. union (map (plan_set (size_of rows all)) plans)) (sym c.as_slice-in-Union.ensures)))
    (is rows all holds are))
    c.union_within.ensures
