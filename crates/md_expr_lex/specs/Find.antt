-- The token at the beginning of a text, and what follows it.
use Rattle.std.specs.Prelude.{ℕ, true, false, if◌then◌else◌, List, [], ◌∷◌, Some, None}
use Rattle.md_value.specs.Name.{is_name, is_name_part}
use Rattle.md_expr_tree.specs.declared.token.Token.TheVariants as token
use Rattle.md_expr_lex.specs.declared.class.Kind.{Kind}
use Rattle.md_expr_lex.specs.declared.class.Kind.TheVariants as kind
use Rattle.md_expr_lex.specs.Prefix.{ScannedToken, prefix}
use Rattle.md_expr_lex.specs.Kinds.{kind_of}
use Rattle.md_expr_lex.specs.Numbers.{number_at}
use Rattle.md_expr_lex.specs.Signs.{sign_at}
use Rattle.md_expr_lex.specs.Strings.{string_at}
use Rattle.md_expr_lex.specs.Times.{time_at}

-- from the word at the beginning, and what follows it
abbrev pub named : List ℕ × List ℕ → ScannedToken
named x = if is_name x.0 then Some (token.Name x.0, x.1) else None

-- from what begins with the first character, that character and the others
abbrev pub token_by : Kind → ℕ → List ℕ → ScannedToken
token_by kind.Letter c cs = named (prefix is_name_part (c ∷ cs))
token_by kind.Quote c cs = string_at c cs
token_by kind.Digit c cs = number_at false (c ∷ cs)
token_by kind.Minus c cs = number_at true cs
token_by kind.Dollar c cs = time_at cs
token_by k c cs = sign_at k cs

abbrev pub token_at : List ℕ → ScannedToken
token_at [] = None
token_at (c ∷ cs) = token_by (kind_of c) c cs
