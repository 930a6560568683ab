use Rattle.std.proofs.Common.{codes, ◌∙◌}
use Rattle.md_words.proofs.Spacing.{joined_texts}
use Rattle.md_words.proofs.word.spaced.Goals as goal

pub returns : goal.returns
returns c = c.from_string.ensures ∙ c.in_ok-text.ensures.ok ∙ joined_texts (codes " ") c.args.words.now
