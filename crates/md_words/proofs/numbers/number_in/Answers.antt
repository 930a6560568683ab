use Rattle.std.proofs.Common.{rules}
use Rattle.md_words.proofs.Numerals.{too_large}
use Rattle.md_words.proofs.numbers.number_in.Goals as goal

pub returns-in_default-3-clause-value : goal.returns-in_default-3-clause-value
returns-in_default-3-clause-value c = too_large c.args.least c.args.most c.args.word.now (search rules) (search rules) c.in_default.ensures.value.0
