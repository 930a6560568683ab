use Rattle.std.proofs.Common.{map, take, chars, string_bytes, codes}
use Rattle.md_expr_print.specs.Spell.{in_all, in_any, spelling}
use Rattle.md_expr_print.proofs.Joins.{Written}
use Rattle.md_expr_print.proofs.exprs.+spell.Given as goal

abbrev pub invariant-push_all-loop-member : goal.invariant-push_all-loop-member
invariant-push_all-loop-member l = Written (codes " && ") l.is_first (chars (string_bytes l.fn.out)) (chars (string_bytes l.out)) (map (λ e. in_all (spelling e)) (take l.member-index l.members))

abbrev pub invariant-push_any-loop-member : goal.invariant-push_any-loop-member
invariant-push_any-loop-member l = Written (codes " || ") l.is_first (chars (string_bytes l.fn.out)) (chars (string_bytes l.out)) (map (λ e. in_any (spelling e)) (take l.member-index l.members))
