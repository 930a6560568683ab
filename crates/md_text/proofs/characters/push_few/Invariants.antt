use Rattle.std.proofs.Common.{◌≡◌, ◌++◌, take}
use Rattle.md_text.proofs.characters.push_few.Given as goal

abbrev pub invariant-loop-character : goal.invariant-loop-character
invariant-loop-character l = l.made.items ≡ l.fn.made.items ++ take l.character-index l.characters
