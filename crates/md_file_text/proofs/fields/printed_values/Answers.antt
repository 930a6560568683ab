use Rattle.md_file_text.proofs.Ranges.{lent_in_range}
use Rattle.md_file_text.proofs.fields.printed_values.Goals as goal

pub returns-clause-in_range : goal.returns-clause-in_range
returns-clause-in_range c = lent_in_range _ c.get.result c.args.attrs.now c.args.name.now c.has_shape.ensures c.get.ensures
