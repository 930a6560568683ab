use Rattle.md_render.proofs.Joined.{journal_text-append}
use Rattle.md_render.proofs.laws.journals_join.Goals as goal

pub returns : goal.returns
returns c = journal_text-append
