use Rattle.md_value.proofs.Schemas.{schema_listed}
use Rattle.md_value.proofs.laws.schema_is_the_definition.Goals as goal

pub returns : goal.returns
returns c = schema_listed
