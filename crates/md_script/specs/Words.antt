-- The numbers, paths, contents and expressions of a line.
use Rattle.std.specs.Prelude.{ℕ, ◌==◌, Bool, not, ◌&&◌, if◌then◌else◌, List, [], ◌∷◌, length, Option, Some, None}
use Rattle.std.specs.Option.{option_and_then}
use Rattle.std.specs.Result.{result_ok}
use Rattle.std.specs.List.{list_any}
use Rattle.std.specs.Str.{is_utf8}
use Rattle.md_value.specs.Path.{is_bad, normal}
use Rattle.md_words.specs.Numbers.{number_in}
use Rattle.md_expr_tree.specs.declared.tree.Expr.{Expr}
use Rattle.md_script.specs.Lines.{is_space}
use Rattle.md_script.specs.Escapes.{unescaped}
use Rattle.md_script.specs.Readings.{reading_of}

-- a client's number after the letter `c`
unfoldable pub client_of : List ℕ → Option ℕ
client_of [] = None
client_of (b ∷ digits) = if b == 99 then number_in 0 255 digits else None

-- a number of 32 bits
unfoldable pub number_of : List ℕ → Option ℕ
number_of text = number_in 0 4294967295 text

-- a text that is read as a path
unfoldable pub is_path : List ℕ → Bool
is_path text = is_utf8 text && not (is_bad text)

-- the path that a text writes with escapes, which may be the root
unfoldable pub folder_of : List ℕ → Option (List ℕ)
folder_of text = option_and_then (λ path. if is_path path then Some (normal path) else None) (unescaped text)

-- a path other than the root, whose text is empty
abbrev pub below_root : List ℕ → Option (List ℕ)
below_root path = if length path == 0 then None else Some path

-- the path other than the root that one word writes
unfoldable pub path_of : List ℕ → Option (List ℕ)
path_of word = if list_any is_space word then None else option_and_then below_root (folder_of word)

-- the content that the rest of a line writes
unfoldable pub content_of : List ℕ → Option (List ℕ)
content_of rest = option_and_then (λ text. if is_utf8 text then Some text else None) (unescaped rest)

-- The expression that a text is read as, where it is UTF-8 and its reading gives one. By the law `expressions_are_read` it is
-- `Some e` exactly where the text is UTF-8 and the relation `IsVerdict` of md_expr holds of `Ok e` and the text.
unfoldable pub expression_of : List ℕ → Option Expr
expression_of text = if is_utf8 text then result_ok (reading_of text).answer else None
