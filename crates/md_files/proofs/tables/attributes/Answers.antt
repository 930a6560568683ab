use Rattle.md_value.specs.Schema.{schema}
use Rattle.md_files.specs.Tables.{attributes_text}
use Rattle.md_files.proofs.tables.attributes.Goals as goal

pub returns : goal.returns
unfolding schema attributes_text
returns c = c.attributes_of.ensures
