use Rattle.std.proofs.Common.{◌≡◌, map, take}
use Rattle.md_text.specs.Key.{key}
use Rattle.md_text.proofs.pattern.Pattern.of.Given as goal

abbrev pub invariant-loop-piece : goal.invariant-loop-piece
invariant-loop-piece l = l.made.items ≡ map (key l.fold l.marks) (take l.piece-index l.pieces)
