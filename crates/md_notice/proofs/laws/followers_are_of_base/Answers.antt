use Rattle.md_notice.proofs.Versions.{of_base, notices_from}
use Rattle.md_notice.proofs.laws.followers_are_of_base.Goals as goal

pub returns : goal.returns
returns c = record { base = of_base; notices = notices_from }
