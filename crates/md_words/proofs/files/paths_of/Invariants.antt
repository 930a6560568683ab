use Rattle.std.proofs.Common.{◌≡◌, ◌++◌, length, map}
use Rattle.std.specs.List.{list_any}
use Rattle.md_value.specs.Path.{is_bad, normal}
use Rattle.md_words.specs.Words.{texts}
use Rattle.md_words.proofs.files.paths_of.Given as goal

abbrev pub invariant-loop-word : goal.invariant-loop-word
invariant-loop-word l = record {
  good : list_any is_bad (texts l.rest) ≡ list_any is_bad (texts l.fn.words);
  paths : l.paths ++ map normal (texts l.rest) ≡ map normal (texts l.fn.words);
}

abbrev pub decreases-loop-word : goal.decreases-loop-word
decreases-loop-word l = length l.rest
