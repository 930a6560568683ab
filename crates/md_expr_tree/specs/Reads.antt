-- What a text reads as.
use Rattle.std.specs.Prelude.{ℕ, List}
use Rattle.md_expr_tree.specs.declared.tree.Expr.{Expr}
use Rattle.md_expr_tree.specs.declared.token.Token.{Token}
use Rattle.md_expr_tree.specs.Tokens.{Lexes}
use Rattle.md_expr_tree.specs.Grammar.{IsExpression, groups}

-- the text, a list of characters, reads as the expression
pub record Reads (text : List ℕ) (e : Expr) : Type 0 where
  pub tokens : List Token
  pub lexes : Lexes text tokens
  pub reads : IsExpression tokens e

-- the greatest number of groups that are open at one place of the text
abbrev pub groups_of : {text : List ℕ} {e : Expr} → Reads text e → ℕ
groups_of r = groups r.reads

-- some text reads as it
pub record IsFit (e : Expr) : Type 0 where
  pub text : List ℕ
  pub reads : Reads text e
