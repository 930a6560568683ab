use Rattle.std.proofs.Common.{◌≡◌, All, FitsSigned, w32, false, subst}
use Rattle.std.proofs.lemmas.Int.{to_z-of_z}
use Rattle.md_value.specs.Values.{IsInRange, is_mixed}
use Rattle.imp_rules.specs.Faults.{FillsAs}
use Rattle.imp_rules.proofs.Given.{if_ok, in_range, one_kind}
use Rattle.imp_csv.specs.Tables.{values_of}
use Rattle.imp_csv.proofs.Tables.{values_good}
use Rattle.imp_csv.proofs.table.values_of_name.Goals as goal

pub returns-clause-value : goal.returns-clause-value
returns-clause-value c =
    let fits : FitsSigned w32 c.args.offset = c.ranges.offset in
    let given : FillsAs c.values_of.result (values_of c.args.offset c.args.name.now c.args.rule c.in_ok-fields.fields) = simp to_z-of_z at c.values_of.ensures.value in
    subst (λ fields. FillsAs c.values_of.result (values_of c.args.offset c.args.name.now c.args.rule fields)) c.in_ok-fields.ensures given

pub returns-clause-in_range : goal.returns-clause-in_range
returns-clause-in_range c = if_ok (All IsInRange) c.values_of.result _ c.values_of.ensures.value (λ vs is. in_range c.args.rule.kind vs (values_good _ _ c.args.rule _ vs is))

pub returns-clause-one_kind : goal.returns-clause-one_kind
returns-clause-one_kind c = if_ok (λ vs. is_mixed vs ≡ false) c.values_of.result _ c.values_of.ensures.value (λ vs is. one_kind c.args.rule.kind vs (values_good _ _ c.args.rule _ vs is))
