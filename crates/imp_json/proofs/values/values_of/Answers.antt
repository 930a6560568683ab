use Rattle.std.proofs.Common.{◌≡◌, map, filter, sym, ap, ◌∙◌, subst, FitsSigned, w32}
use Rattle.std.proofs.lemmas.Int.{to_z-of_z}
use Rattle.serde_json.specs.Data.{array}
use Rattle.serde_json.specs.View.{view, items_view}
use Rattle.serde_json.proofs.Views.{view-Array}
use Rattle.imp_rules.specs.Faults.{FillsAs, all_given}
use Rattle.imp_json.specs.Objects.{value_of, is_given}
use Rattle.imp_json.proofs.Objects.{array_given}
use Rattle.imp_json.proofs.values.values_of.Goals as goal

pub returns-in-Array : goal.returns-in-Array
returns-in-Array c =
    let fits : FitsSigned w32 c.args.offset = c.ranges.offset in
    let given = simp to_z-of_z at c.values_in.ensures in
    let is : view c.args.json.now ≡ array (items_view c.in-Array.members.items) = ap view c.in-Array.is ∙ view-Array c.in-Array.members in
    let same = array_given c.args.offset c.args.name.now c.args.rule (view c.args.json.now) (map view c.in-Array.members.items) is c.if-rule.true in
    let lent = ap (λ xs. all_given (map (value_of c.args.offset c.args.name.now c.args.rule.kind) (filter is_given (map view xs)))) (sym c.deref.ensures.value) in
    record { value = subst (FillsAs c.values_in.result) (sym (same ∙ lent)) given }
