-- The expression that is searched for.
use Rattle.std.specs.Prelude.{ℕ, ◌==◌, Bool, ◌||◌, nat_eq, if◌then◌else◌, List, [], ◌∷◌, chars, codes, Option, Some, None, Result, Ok, Err}
use Rattle.std.specs.List.{list_any, starts_with}
use Rattle.md_expr_tree.specs.declared.tree.Expr.{Expr}
use Rattle.md_expr_tree.specs.declared.tree.Expr.TheVariants as expr
use Rattle.md_expr_parse.specs.declared.read.ReadError.{ReadError}
use Rattle.md_expr_plain.specs.Plain.{name_test, interpreted}
use Rattle.md_words.specs.declared.command.Mode.{Mode}
use Rattle.md_words.specs.declared.command.Mode.TheVariants as mode
use Rattle.md_find.specs.Readings.{reading_of}

-- `=`, `<` or `>`
abbrev pub is_sign : ℕ → Bool
is_sign byte = (byte == 61) || ((byte == 60) || (byte == 62))

-- whether a text has the part somewhere
abbrev pub has_part : List ℕ → List ℕ → Bool
has_part part [] = starts_with nat_eq [] part
has_part part (byte ∷ text) = starts_with nat_eq (byte ∷ text) part || has_part part text

-- whether a text that may be either is read as an expression
unfoldable pub looks_like_expression : List ℕ → Bool
looks_like_expression text = list_any is_sign text || has_part (codes "InRange(") text

-- The expression of a search text. By the law `literal_text_is_read` it is, by `Literal`, the one answer that the relation
-- `IsVerdict` of md_expr allows.
abbrev pub searched : Mode → List ℕ → Result Expr ReadError
searched mode.Literal text = (reading_of text).answer
searched mode.Plain text = interpreted text
searched mode.Guess text = if looks_like_expression text then (reading_of text).answer else interpreted text

-- the test of a name, and the expression of the text
abbrev pub with_name : List ℕ → Result Expr ReadError → Result Expr ReadError
with_name name (Ok e) = Ok (expr.All (name_test (chars name) ∷ e ∷ []))
with_name name (Err error) = Err error

-- the expression that is searched for by a name, a text or both, in bytes; with neither, the text is empty
abbrev pub search_of : Option (List ℕ) → Mode → Option (List ℕ) → Result Expr ReadError
search_of None mode None = searched mode []
search_of None mode (Some text) = searched mode text
search_of (Some name) mode None = Ok (name_test (chars name))
search_of (Some name) mode (Some text) = with_name name (searched mode text)
