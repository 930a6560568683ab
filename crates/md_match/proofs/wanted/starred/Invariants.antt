use Rattle.std.proofs.Common.{◌≡◌, ◌++◌, string_bytes, drop}
use Rattle.std.specs.Prelude.{chars}
use Rattle.md_match.specs.Meets.{starred}
use Rattle.md_match.proofs.Words.{each_starred}
use Rattle.md_match.proofs.wanted.starred.Given as goal

abbrev pub invariant-loop-piece : goal.invariant-loop-piece
invariant-loop-piece l = chars (string_bytes l.text) ++ each_starred (drop l.piece-index l.others) ≡ starred l.pieces
