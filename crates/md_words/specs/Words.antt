-- The words of the program, and the files that they name.
use Rattle.std.specs.Prelude.{ℕ, ◌==◌, Bool, false, if◌then◌else◌, List, [], ◌∷◌, length, map, codes, String, string_bytes, Option, Some, None}
use Rattle.std.specs.Global.{Global}
use Rattle.std.specs.List.{list_any, join_by}
use Rattle.std.specs.Option.{option_and_then}
use Rattle.md_value.specs.Path.{is_bad, normal}

-- the words as their bytes
abbrev pub texts : List (String Global) → List (List ℕ)
texts words = map (λ word. string_bytes word) words

-- the words with a space between each two
abbrev pub spaced : List (List ℕ) → List ℕ
spaced words = join_by (λ word. word) (codes " ") words

-- `{ TEXT }`, where there is one
unfoldable pub text_of : List (List ℕ) → Option (List ℕ)
text_of words = if length words == 0 then None else Some (spaced words)

unfoldable pub begins_with_dash : List ℕ → Bool
begins_with_dash [] = false
begins_with_dash (b ∷ bs) = b == 45

-- the path of a file or a folder
unfoldable pub path_of : List ℕ → Option (List ℕ)
path_of word = if is_bad word then None else Some (normal word)

-- the paths that the words write, where each writes one
unfoldable pub paths_of : List (List ℕ) → Option (List (List ℕ))
paths_of words = if list_any is_bad words then None else Some (map normal words)

-- `FILE { FILE }`
unfoldable pub files_of : List (List ℕ) → Option (List (List ℕ))
files_of words = if length words == 0 then None else paths_of words

abbrev pub is_root : List ℕ → Bool
is_root path = length path == 0

-- `FILE { FILE }`, where none is the root
unfoldable pub files_below_root : List (List ℕ) → Option (List (List ℕ))
files_below_root words = option_and_then (λ files. if list_any is_root files then None else Some files) (files_of words)
