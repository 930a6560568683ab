use Rattle.std.proofs.Common.{◌≡◌, All, false}
use Rattle.md_value.specs.Values.{IsInRange, is_mixed}
use Rattle.imp_rules.proofs.Given.{if_ok, in_range, one_kind}
use Rattle.imp_json.proofs.Objects.{values_good}
use Rattle.imp_json.proofs.object.ObjectFileValues.values.Goals as goal

pub returns-in-Some-clause-in_range : goal.returns-in-Some-clause-in_range
returns-in-Some-clause-in_range c =
    if_ok (All IsInRange) c.values_of.result _ c.values_of.ensures.value (λ vs is. in_range c.args.rule.kind vs (values_good _ _ c.args.rule _ vs is))

pub returns-in-Some-clause-one_kind : goal.returns-in-Some-clause-one_kind
returns-in-Some-clause-one_kind c =
    if_ok (λ vs. is_mixed vs ≡ false) c.values_of.result _ c.values_of.ensures.value (λ vs is. one_kind c.args.rule.kind vs (values_good _ _ c.args.rule _ vs is))
