-- A text has one reading.
use Rattle.std.proofs.Common.{◌≡◌, ℕ, List, subst}
use Rattle.md_expr_tree.specs.declared.tree.Expr.{Expr}
use Rattle.md_expr_tree.specs.declared.token.Token.{Token}
use Rattle.md_expr_tree.specs.Grammar.{IsExpression, groups}
use Rattle.md_expr_lex.proofs.Derive.{one_lexing}
use Rattle.md_expr_parse.proofs.Exact.{one_reading, one_depth}
use Rattle.md_expr.specs.Verdict.{HasOneReading}

agree : (ts us : List Token) → ts ≡ us → (e f : Expr) (d : IsExpression ts e) (g : IsExpression us f) → (e ≡ f) × (groups d ≡ groups g)
agree ts us p e f d =
    subst (λ us. (g : IsExpression us f) → (e ≡ f) × (groups d ≡ groups g)) p (λ g. (one_reading ts e f d g, one_depth ts e f d g))

pub readings_agree : (text : List ℕ) → HasOneReading text
readings_agree text e f r s = agree r.tokens s.tokens (one_lexing r.lexes s.tokens s.lexes) e f r.reads s.reads
