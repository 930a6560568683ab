use Rattle.std.proofs.Common.{◌∙◌, ap}
use Rattle.md_value.specs.Schema.{rule_in}
use Rattle.md_value.proofs.Schemas.{schema_listed}
use Rattle.md_value.proofs.schema.schema_of.Goals as goal

pub returns : goal.returns
returns c = c.rule_in.ensures ∙ ap (λ table. rule_in table c.args.name.now) schema_listed
