use Rattle.std.proofs.Common.{◌≡◌, ◌++◌, drop}
use Rattle.caseless.specs.Caseless.{default_case_fold}
use Rattle.md_text.proofs.characters.push_all_folded.Given as goal

abbrev pub invariant-loop-character : goal.invariant-loop-character
invariant-loop-character l = l.made.items ++ default_case_fold (drop l.character-index l.characters) ≡ l.fn.made.items ++ default_case_fold l.characters
