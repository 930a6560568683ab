use Rattle.std.proofs.Common.{rules}
use Rattle.md_words.specs.Words.{texts}
use Rattle.md_words.proofs.Joining.{marker_step}
use Rattle.md_words.proofs.options.Options.take_marker.Goals as goal

pub returns-clause-value : goal.returns-clause-value
returns-clause-value c =
    marker_step c.args.self.now c.in-Some.word.now c.in_ok-of.field-0 (texts c.args.words.now) (texts c.in-Some.rest.now) (search rules) (search rules) (search rules)
