-- Texts joined by one space.
use Rattle.std.specs.Prelude.{ℕ, List, ◌∷◌}
use Rattle.std.specs.List.{flat_map, join_with_byte}

-- the texts, with a space between each two
abbrev pub joined : List (List ℕ) → List ℕ
joined texts = join_with_byte 32 texts

-- the texts, each after a space
abbrev pub spaced : List (List ℕ) → List ℕ
spaced texts = flat_map (λ text. 32 ∷ text) texts
