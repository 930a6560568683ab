-- What begins with a character.
use Rattle.std.specs.Prelude.{ℕ, Bool, not, ◌==◌, if◌then◌else◌}
use Rattle.std.specs.Char.{is_ascii_digit}
use Rattle.md_value.specs.Name.{is_name_start}
use Rattle.md_expr_tree.specs.Classes.{is_blank, is_quote}
use Rattle.md_expr_lex.specs.declared.class.Kind.{Kind}
use Rattle.md_expr_lex.specs.declared.class.Kind.TheVariants as kind

-- no `)`
abbrev pub is_not_closing : ℕ → Bool
is_not_closing c = not (c == 41)

abbrev pub sign_kind : ℕ → Kind
sign_kind c =
    if c == 61 then kind.Equal else (if c == 33 then kind.Bang else (if c == 60 then kind.Less else (if c == 62 then kind.Greater else (if c == 38 then kind.Ampersand else (if c == 124 then kind.Bar else (if c == 42 then kind.Star else (if c == 40 then kind.Open else (if c == 41 then kind.Close else (if c == 44 then kind.Comma else kind.Other)))))))))

abbrev pub word_kind : ℕ → Kind
word_kind c = if is_quote c then kind.Quote else (if is_ascii_digit c then kind.Digit else (if c == 45 then kind.Minus else (if c == 36 then kind.Dollar else sign_kind c)))

abbrev pub kind_of : ℕ → Kind
kind_of c = if is_blank c then kind.Blank else (if is_name_start c then kind.Letter else word_kind c)
