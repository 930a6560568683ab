-- From the tokens' answer to the text's.
use Rattle.std.proofs.Common.{◌≡◌, ◌≤◌, ℕ, true, List, length, chars, Result, Ok, Err, IfOk, subst}
use Rattle.md_expr_tree.specs.declared.tree.Expr.{Expr}
use Rattle.md_expr_tree.specs.declared.token.Token.{Token}
use Rattle.md_expr_tree.specs.Grammar.{IsExpression}
use Rattle.md_expr_tree.specs.Tokens.{Lexes}
use Rattle.md_expr_tree.specs.WellMade.{is_well_made}
use Rattle.md_expr_parse.specs.Reading.{Reading}
use Rattle.md_expr_parse.specs.declared.read.ReadError.{ReadError}
use Rattle.md_expr_parse.specs.declared.read.ReadError.TheVariants as error
use Rattle.md_expr.specs.Verdict.{IsVerdict}
use Rattle.md_expr_plain.proofs.Well.{expression_well}

-- these are the text's tokens, and it has no others
abbrev pub Only : List ℕ → List Token → Type 0
Only text ts = Lexes text ts × ((us : List Token) → Lexes text us → us ≡ ts)

pub answered : (text : List ℕ) (ts : List Token) (r : Result Expr ReadError) → length text ≤ 65536 → Only (chars text) ts → Reading r ts → IsVerdict r text
answered text ts (Ok e) short o r = (short, record { tokens = ts; lexes = o.0; reads = r.0 }, r.1, r.2)
answered text ts (Err error.Memory) short o r = tt
answered text ts (Err error.TooLong) short o r = absurd r
answered text ts (Err error.NotExpression) short o r = (short, λ e x. r e (subst (λ t. IsExpression t e) (o.1 x.tokens x.lexes) x.reads))
answered text ts (Err error.TooDeep) short o r = (short, r.0, record { tokens = ts; lexes = o.0; reads = r.1 }, r.2)
answered text ts (Err error.TooMany) short o r = (short, r.0, record { tokens = ts; lexes = o.0; reads = r.1 }, r.2, r.3)

pub well : (ts : List Token) (r : Result Expr ReadError) → Reading r ts → IfOk r (λ e. is_well_made e ≡ true)
well ts (Ok e) r = expression_well ts e r.0
well ts (Err e) r = tt
