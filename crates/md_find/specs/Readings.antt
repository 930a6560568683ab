-- What reading a text answers.
use Rattle.std.specs.Prelude.{◌≢◌, ℕ, List, Result, Err}
use Rattle.md_expr_tree.specs.declared.tree.Expr.{Expr}
use Rattle.md_expr_parse.specs.declared.read.ReadError.{ReadError}
use Rattle.md_expr_parse.specs.declared.read.ReadError.TheVariants as error
use Rattle.md_expr.specs.Verdict.{IsVerdict}
use Rattle.md_expr.proofs.Verdicts.{is_one_verdict}

-- an answer that the grammar and the limits allow, other than want of memory
pub record Reading (text : List ℕ) : Type 0 where
  pub answer : Result Expr ReadError
  pub allowed : IsVerdict answer text
  pub decided : answer ≢ Err error.Memory

-- The reading of a text. By the law `literal_text_is_read` no other answer is one. The line below shows that there is one, and need
-- not be read.
unfoldable pub reading_of : (text : List ℕ) → Reading text
reading_of text = record { answer = _; allowed = (is_one_verdict text).answers; decided = (is_one_verdict text).decided }
