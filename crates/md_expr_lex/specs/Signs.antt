-- Operators, connectives and other signs at the beginning of a text.
use Rattle.std.specs.Prelude.{ℕ, ◌==◌, if◌then◌else◌, List, [], ◌∷◌, Some, None}
use Rattle.md_expr_tree.specs.declared.tree.Op.TheVariants as op
use Rattle.md_expr_tree.specs.declared.token.Token.{Token}
use Rattle.md_expr_tree.specs.declared.token.Token.TheVariants as token
use Rattle.md_expr_lex.specs.declared.class.Kind.{Kind}
use Rattle.md_expr_lex.specs.declared.class.Kind.TheVariants as kind
use Rattle.md_expr_lex.specs.Prefix.{ScannedToken}

-- the longer token where the character comes next, else the shorter one
abbrev pub either : ℕ → Token → Token → List ℕ → ScannedToken
either k long short [] = Some (short, [])
either k long short (c ∷ cs) = if c == k then Some (long, cs) else Some (short, c ∷ cs)

-- the token where the character comes next
abbrev pub doubled : ℕ → Token → List ℕ → ScannedToken
doubled k t [] = None
doubled k t (c ∷ cs) = if c == k then Some (t, cs) else None

-- from what follows the first character
abbrev pub sign_at : Kind → List ℕ → ScannedToken
sign_at kind.Equal cs = either 61 (token.Op op.Equal) (token.Op op.Equal) cs
sign_at kind.Bang cs = either 61 (token.Op op.NotEqual) token.Not cs
sign_at kind.Less cs = either 61 (token.Op op.LessEqual) (token.Op op.Less) cs
sign_at kind.Greater cs = either 61 (token.Op op.GreaterEqual) (token.Op op.Greater) cs
sign_at kind.Ampersand cs = doubled 38 token.And cs
sign_at kind.Bar cs = doubled 124 token.Or cs
sign_at kind.Star cs = Some (token.Star, cs)
sign_at kind.Open cs = Some (token.Open, cs)
sign_at kind.Close cs = Some (token.Close, cs)
sign_at kind.Comma cs = Some (token.Comma, cs)
sign_at _ cs = None
