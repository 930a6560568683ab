use Rattle.md_machine.specs.Steps.{step}
use Rattle.md_turn.specs.Acts.{journal_of, state_of}
use Rattle.md_turn.proofs.Moves.{listed}
use Rattle.md_turn.proofs.laws.rule_is_listed.Goals as goal

pub returns : goal.returns
returns g c opening s kept = listed step journal_of (state_of g.C.Core.state) opening s kept
