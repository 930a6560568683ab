use Rattle.md_value.proofs.Schemas.{schema_sorted}
use Rattle.md_value.proofs.laws.schema_ascends.Goals as goal

pub returns : goal.returns
returns c = schema_sorted
