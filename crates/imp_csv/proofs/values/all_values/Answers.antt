use Rattle.std.proofs.Common.{◌+◌, ◌++◌, map, drop, Ok, sym, ap, ◌∙◌, FitsSigned, w32, append-nil, arith}
use Rattle.std.proofs.lemmas.Int.{to_z-of_z}
use Rattle.std.proofs.lemmas.List.{drop_all}
use Rattle.std.proofs.lemmas.Result.{err_from_is_err_and}
use Rattle.imp_rules.specs.Faults.{made_of, all_given}
use Rattle.imp_rules.proofs.Given.{cause_of_all, one_more}
use Rattle.imp_csv.specs.Tables.{value_of}
use Rattle.imp_csv.proofs.Ends.{drop_field}
use Rattle.imp_csv.proofs.values.all_values.Goals as goal

pub returns-in_err-value : goal.returns-in_err-value
returns-in_err-value c =
    let fits : FitsSigned w32 c.args.offset = c.ranges.offset in
    let p = err_from_is_err_and c.from_residual-in_err-value.result c.from_residual-in_err-value.ensures.1 in
    let all = simp to_z-of_z at c.loop-place.invariant in
    let cause = simp to_z-of_z at c.in_err-value.ensures in
    let value = value_of c.args.offset c.args.name.now c.args.kind in
    let place = c.loop-place.place in
    let fields = c.args.fields.now in
    let x = c.at.result.now in
    rw (p.1, p.2) (cause_of_all c.loop-place.values.items (value x) (map value (drop (place + 1) fields)) _
    (ap (λ xs. made_of (λ more. c.loop-place.values.items ++ more) (all_given (map value xs))) (sym (drop_field fields place x c.at.ensures)) ∙ all) c.in_err-value.field-0.0 cause)

pub loop-place-preserved : goal.loop-place-preserved
loop-place-preserved c =
    let fits : FitsSigned w32 c.args.offset = c.ranges.offset in
    let all = simp to_z-of_z at c.loop-place.invariant in
    let given = simp to_z-of_z at c.in_ok-value.ensures in
    let value = value_of c.args.offset c.args.name.now c.args.kind in
    let place = c.loop-place.place in
    let fields = c.args.fields.now in
    let x = c.at.result.now in
    let more = sym (one_more c.loop-place.values.items c.push_value.new.values.items _ (value x) (map value (drop (place + 1) fields)) given c.in_ok-push_value.ensures)
    ∙ ap (λ xs. made_of (λ more. c.loop-place.values.items ++ more) (all_given (map value xs))) (sym (drop_field fields place x c.at.ensures)) ∙ all in
    simp to_z-of_z (more)

pub returns : goal.returns
returns c =
    let fits : FitsSigned w32 c.args.offset = c.ranges.offset in
    let all = simp to_z-of_z at c.loop-place.invariant in
    let value = value_of c.args.offset c.args.name.now c.args.kind in
    let values = c.loop-place.values.items in
    let none = drop_all c.loop-place.place c.args.fields.now (omega (arith, c.loop-place-test.false, c.len-place-end.ensures)) in
    sym all ∙ ap (λ xs. made_of (λ more. values ++ more) (all_given (map value xs))) none ∙ ap Ok (append-nil values ∙ sym c.from_vec.ensures)
