-- The words of a line.
use Rattle.std.specs.Prelude.{ℕ, ◌==◌, Bool, List}
use Rattle.std.specs.List.{before_first, after_first, slice_split, join_with_byte}

abbrev pub is_space : ℕ → Bool
is_space b = b == 32

-- what stands before the first space
unfoldable pub first_word : List ℕ → List ℕ
first_word text = before_first is_space text

-- what stands after the first space
unfoldable pub after_word : List ℕ → List ℕ
after_word text = after_first is_space text

-- the words that stand between spaces
abbrev pub words_of : List ℕ → List (List ℕ)
words_of text = slice_split is_space text

-- the words with a space between each two
abbrev pub spaced : List (List ℕ) → List ℕ
spaced words = join_with_byte 32 words
