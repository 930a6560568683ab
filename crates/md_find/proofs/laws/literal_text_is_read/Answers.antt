use Rattle.md_find.proofs.Literals.{literal_reads, guess_reads}
use Rattle.md_find.proofs.laws.literal_text_is_read.Goals as goal

pub returns : goal.returns
returns c = record { literal = literal_reads; guessed = guess_reads }
