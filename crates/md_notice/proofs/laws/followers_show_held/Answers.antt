use Rattle.md_notice.proofs.Received.{received_shown}
use Rattle.md_notice.proofs.laws.followers_show_held.Goals as goal

pub returns-clause-shown : goal.returns-clause-shown
returns-clause-shown c = received_shown
