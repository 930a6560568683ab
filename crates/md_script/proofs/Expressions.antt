-- The expression of a query's line is what its text reads as.
use Rattle.std.proofs.Common.{◌≡◌, ◌↔◌, ℕ, Bool, true, false, if◌then◌else◌, List, Some, None, Result, Ok, Err, refl, ap, subst}
use Rattle.std.specs.Result.{result_ok}
use Rattle.std.specs.Str.{is_utf8}
use Rattle.md_expr_tree.specs.declared.tree.Expr.{Expr}
use Rattle.md_expr.specs.Verdict.{IsVerdict}
use Rattle.md_expr.specs.Reader.{verdict}
use Rattle.md_expr.proofs.Verdicts.{is_one_verdict, verdict_read}
use Rattle.md_script.specs.Readings.{reading_of}
use Rattle.md_script.specs.Words.{expression_of}

is_ok : {A E : Type 0} (r : Result A E) (x : A) → result_ok r ≡ Some x → r ≡ Ok x
is_ok (Ok y) x h = let same : y ≡ x = cc in ap Ok same
is_ok (Err e) x h = cc

by_utf8 : (utf8 : Bool) (text : List ℕ) (expr : Expr) → (if utf8 then result_ok (verdict text) else None) ≡ Some expr → (utf8 ≡ true) × IsVerdict (Ok expr) text
by_utf8 true text expr h = (refl, subst (λ r. IsVerdict r text) (is_ok (verdict text) expr h) (is_one_verdict text).answers)
by_utf8 false text expr h = cc

pub expression_reads : (text : List ℕ) (expr : Expr) → (expression_of text ≡ Some expr) ↔ ((is_utf8 text ≡ true) × IsVerdict (Ok expr) text)
unfolding expression_of reading_of
expression_reads text expr = (by_utf8 (is_utf8 text) text expr, λ reads. rw reads.0 (verdict_read text expr ((is_one_verdict text).only (Ok expr) reads.1)))
