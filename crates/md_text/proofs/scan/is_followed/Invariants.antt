use Rattle.std.proofs.Common.{◌≡◌, [], ◌∷◌, ◌++◌, drop, map}
use Rattle.std.specs.Prelude.{encode_utf8_all}
use Rattle.md_text.specs.Wild.{wild, some_end}
use Rattle.md_text.proofs.scan.is_followed.Given as goal

abbrev pub invariant-loop-piece : goal.invariant-loop-piece
invariant-loop-piece l =
    some_end (wild (drop l.piece-index (map encode_utf8_all l.middle) ++ encode_utf8_all l.last ∷ [])) l.rest ≡ some_end (wild (map encode_utf8_all l.middle ++ encode_utf8_all l.last ∷ [])) l.text
