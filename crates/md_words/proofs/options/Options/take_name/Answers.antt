use Rattle.std.proofs.Common.{rules}
use Rattle.md_words.specs.Words.{texts}
use Rattle.md_words.proofs.Joining.{name_step}
use Rattle.md_words.proofs.options.Options.take_name.Goals as goal

pub returns-clause-value : goal.returns-clause-value
returns-clause-value c =
    name_step c.args.self.now c.in-Some.word.now c.in-Some-2.name (texts c.args.words.now) (texts c.in-Some.rest.now) c.push.new.self (search rules) (search rules) (search rules)
