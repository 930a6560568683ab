-- Words with a space between each two.
use Rattle.std.proofs.Common.{◌≡◌, ℕ, List, [], ◌∷◌, ◌++◌, String, string_bytes, refl, sym, ap}
use Rattle.std.specs.Global.{Global}
use Rattle.std.specs.List.{join_by}
use Rattle.std.proofs.lemmas.List.Folds.{flat_map-map}
use Rattle.md_words.specs.Words.{texts}

-- the texts of words are joined as the words are
pub joined_texts : (sep : List ℕ) (words : List (String Global)) → join_by string_bytes sep words ≡ join_by (λ word. word) sep (texts words)
joined_texts sep [] = refl
joined_texts sep (word ∷ words) = ap (λ rest. string_bytes word ++ rest) (sym (flat_map-map (λ text. sep ++ text) string_bytes words))
