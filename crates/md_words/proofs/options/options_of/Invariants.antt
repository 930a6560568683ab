use Rattle.std.proofs.Common.{◌≡◌, length}
use Rattle.md_words.specs.Options.{joined, options_from, option}
use Rattle.md_words.specs.Words.{texts}
use Rattle.md_words.proofs.options.options_of.Given as goal

abbrev pub invariant-loop-word : goal.invariant-loop-word
invariant-loop-word l =
    joined l.options (options_from option (texts l.rest)) ≡ options_from option (texts l.fn.words)

abbrev pub decreases-loop-word : goal.decreases-loop-word
decreases-loop-word l = length l.rest
