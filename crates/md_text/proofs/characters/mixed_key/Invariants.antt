use Rattle.std.proofs.Common.{◌≡◌, ◌++◌, ℕ, List, string_bytes}
use Rattle.std.specs.Prelude.{encode_utf8_all}
use Rattle.md_text.specs.Key.{key}
use Rattle.md_text.proofs.characters.mixed_key.Given as goal

-- whatever follows, what is there and the key of the characters since the last one of ASCII is the key of the text so far
abbrev pub invariant-loop-character : goal.invariant-loop-character
invariant-loop-character l =
    (rest : List ℕ) → string_bytes l.made ++ encode_utf8_all (key l.fold l.marks (l.others.items ++ rest)) ≡ encode_utf8_all (key l.fold l.marks (l.yielded ++ rest))
