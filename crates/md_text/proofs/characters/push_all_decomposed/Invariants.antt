use Rattle.std.proofs.Common.{◌≡◌, ◌++◌, drop, flat_map}
use Rattle.unicode_normalization.specs.Decompose.{decompose}
use Rattle.unicode_normalization.specs.Forms.{Nfd}
use Rattle.md_text.proofs.characters.push_all_decomposed.Given as goal

abbrev pub invariant-loop-character : goal.invariant-loop-character
invariant-loop-character l = l.made.items ++ flat_map (decompose Nfd) (drop l.character-index l.characters) ≡ l.fn.made.items ++ flat_map (decompose Nfd) l.characters
