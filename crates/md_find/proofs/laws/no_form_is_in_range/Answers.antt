use Rattle.md_find.proofs.Counting.{no_form}
use Rattle.md_find.proofs.laws.no_form_is_in_range.Goals as goal

pub returns : goal.returns
returns c = no_form
