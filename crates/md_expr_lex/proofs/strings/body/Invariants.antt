use Rattle.std.proofs.Common.{◌≡◌, false, length, chars, string_bytes}
use Rattle.md_expr_lex.specs.Strings.{body_at, glue}
use Rattle.md_expr_lex.proofs.strings.body.Given as goal

abbrev pub invariant-loop-c : goal.invariant-loop-c
invariant-loop-c l = glue l.pieces (chars (string_bytes l.piece)) (body_at l.escaping l.quote l.rest) ≡ body_at false l.quote l.fn.text

abbrev pub decreases-loop-c : goal.decreases-loop-c
decreases-loop-c l = length l.rest
