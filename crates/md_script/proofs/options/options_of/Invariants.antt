use Rattle.std.proofs.Common.{◌≡◌, length}
use Rattle.md_script.specs.Lines.{words_of}
use Rattle.md_script.specs.Options.{asked_of}
use Rattle.md_script.proofs.Asking.{read_on}
use Rattle.md_script.proofs.options.options_of.Given as goal

abbrev pub invariant-loop-rest : goal.invariant-loop-rest
invariant-loop-rest l = read_on l.options (words_of l.rest) ≡ asked_of (words_of l.fn.text)

abbrev pub decreases-loop-rest : goal.decreases-loop-rest
decreases-loop-rest l = length l.rest
