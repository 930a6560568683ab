use Rattle.std.proofs.Common.{◌≡◌, ◌++◌, map, filter, drop, true, sym, ap, ◌∙◌, FitsSigned, w32, ◌+◌}
use Rattle.std.proofs.lemmas.Int.{to_z-of_z}
use Rattle.std.proofs.lemmas.Result.{err_from_is_err_and}
use Rattle.serde_json.specs.View.{view}
use Rattle.imp_rules.specs.Faults.{made_of}
use Rattle.imp_rules.proofs.Given.{cause_of_all}
use Rattle.imp_json.specs.Objects.{value_of, is_given}
use Rattle.imp_json.proofs.Objects.{member_next}
use Rattle.imp_json.proofs.values.values_in.Goals as goal

pub returns-in_err-value_of : goal.returns-in_err-value_of
returns-in_err-value_of c =
    let fits : FitsSigned w32 c.args.offset = c.ranges.offset in
    let p = err_from_is_err_and c.from_residual.result c.from_residual.ensures.1 in
    let all = simp to_z-of_z at c.loop-member.invariant in
    let cause = simp to_z-of_z at c.in_err-value_of.ensures in
    let given : is_given (view c.member-item.result) ≡ true = sym c.is_given.ensures ∙ c.if-is_given.true in
    let value = value_of c.args.offset c.args.name.now c.args.kind in
    let next = member_next value c.args.members.now c.loop-member.member-index c.member-item.result c.loop-member-test.true c.member-item.is given in
    rw (p.1, p.2) (cause_of_all c.loop-member.values (value (view c.member-item.result)) (map value (filter is_given (map view (drop (c.loop-member.member-index + 1) c.args.members.now)))) _
    (ap (made_of (λ more. c.loop-member.values ++ more)) (sym next) ∙ all) c.in_err-value_of.field-0.0 cause)
