-- A search text that is taken for an expression is read by the grammar.
use Rattle.std.proofs.Common.{◌≡◌, ◌≢◌, ◌↔◌, ◌⊎◌, ℕ, true, List, Result, Err, inl, inr, refl, sym, ◌∙◌, subst}
use Rattle.md_expr_tree.specs.declared.tree.Expr.{Expr}
use Rattle.md_expr_parse.specs.declared.read.ReadError.{ReadError}
use Rattle.md_expr_parse.specs.declared.read.ReadError.TheVariants.{Memory}
use Rattle.md_expr.specs.Verdict.{IsVerdict}
use Rattle.md_expr.specs.Reader.{verdict}
use Rattle.md_expr.proofs.Verdicts.{is_one_verdict}
use Rattle.md_words.specs.declared.command.Mode.TheVariants.{Literal, Guess}
use Rattle.md_find.specs.Readings.{reading_of}
use Rattle.md_find.specs.Searches.{looks_like_expression, searched}

only_one : (text : List ℕ) (answer : Result Expr ReadError) → answer ≢ Err Memory → (answer ≡ verdict text) ⊎ (answer ≡ Err Memory) → verdict text ≡ answer
only_one text answer decided (inl same) = sym same
only_one text answer decided (inr want) = absurd (decided want)

pub literal_reads : (text : List ℕ) (answer : Result Expr ReadError) → (searched Literal text ≡ answer) ↔ (IsVerdict answer text × (answer ≢ Err Memory))
unfolding reading_of
literal_reads text answer =
    let is = is_one_verdict text in
    (λ gives. (subst (λ r. IsVerdict r text) gives is.answers, λ want. is.decided (gives ∙ want)), λ reads. only_one text answer reads.1 (is.only answer reads.0))

pub guess_reads : (text : List ℕ) → looks_like_expression text ≡ true → searched Guess text ≡ searched Literal text
guess_reads text looks = rw looks refl
