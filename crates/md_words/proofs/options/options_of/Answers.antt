use Rattle.std.proofs.Common.{rules}
use Rattle.md_words.specs.Words.{texts}
use Rattle.md_words.proofs.Joining.{ends_after, ends_before, ends_last, refuses}
use Rattle.md_words.proofs.options.options_of.Goals as goal

pub returns-then-eq : goal.returns-then-eq
returns-then-eq c =
    ends_after c.loop-word.options c.in-Some.word.now (texts c.args.words.now) (texts c.loop-word.rest.now) (texts c.in-Some.after.now) (search rules) (search rules) c.loop-word.invariant

pub returns-then-not-begins_with_dash : goal.returns-then-not-begins_with_dash
returns-then-not-begins_with_dash c =
    ends_before c.loop-word.options c.in-Some.word.now (texts c.args.words.now) (texts c.loop-word.rest.now) (texts c.in-Some.after.now) (search rules) (search rules) (search rules) c.loop-word.invariant

pub returns-in_default-2 : goal.returns-in_default-2
returns-in_default-2 c =
    refuses c.loop-word.options c.in-Some.word.now (texts c.args.words.now) (texts c.loop-word.rest.now) (texts c.in-Some.after.now) (search rules) (search rules) c.loop-word.invariant

pub returns : goal.returns
returns c = ends_last c.loop-word.options (texts c.args.words.now) (texts c.loop-word.rest.now) (search rules) c.loop-word.invariant
