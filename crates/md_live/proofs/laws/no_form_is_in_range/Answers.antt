use Rattle.md_live.proofs.TimeForms.{always_in_range}
use Rattle.md_live.proofs.laws.no_form_is_in_range.Goals as goal

pub returns : goal.returns
returns c = always_in_range
