use Rattle.std.proofs.Common.{◌≡◌, length}
use Rattle.md_words.specs.Find.{read_from, option, find_options_of}
use Rattle.md_words.specs.Words.{texts}
use Rattle.md_words.proofs.Searching.{read_on}
use Rattle.md_words.proofs.find.find_options_of.Given as goal

abbrev pub invariant-loop-word : goal.invariant-loop-word
invariant-loop-word l = read_on l.options (read_from option (texts l.rest)) ≡ find_options_of (texts l.fn.words)

abbrev pub decreases-loop-word : goal.decreases-loop-word
decreases-loop-word l = length l.rest
