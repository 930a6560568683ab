use Rattle.std.proofs.Common.{rules, ◌≡◌, ◌<◌, ◌++◌, length, arith, chars, string_bytes, codes, take_all}
use Rattle.md_expr_print.specs.Literals.{separator}
use Rattle.md_expr_print.specs.Spell.{in_all, in_any, spelling}
use Rattle.md_expr_print.proofs.Joins.{turned, all_written}
use Rattle.md_expr_print.proofs.exprs.+spell.Goals as goal

pub push_all-loop-member-preserved : goal.push_all-loop-member-preserved
push_all-loop-member-preserved t c =
    let h : c.loop-member.member-index < length c.args.members.now = omega arith in
    let e : chars (string_bytes c.push_in_all.new.out) ≡ (chars (string_bytes c.loop-member.out) ++ separator c.loop-member.is_first (codes " && ")) ++ in_all (spelling c.member-item.result) = search rules in
    turned (λ e. in_all (spelling e)) (codes " && ") (chars (string_bytes c.args.out.now)) c.args.members.now c.loop-member.is_first (chars (string_bytes c.loop-member.out)) _ c.loop-member.member-index c.member-item.result c.loop-member.invariant h c.member-item.is e

pub push_all-returns : goal.push_all-returns
push_all-returns t c = all_written in_all spelling (codes " && ") c.loop-member.is_first (chars (string_bytes c.args.out.now)) (chars (string_bytes c.loop-member.out)) c.args.members.now _ c.loop-member.invariant (take_all _ _ (omega arith))

pub push_any-loop-member-preserved : goal.push_any-loop-member-preserved
push_any-loop-member-preserved t c =
    let h : c.loop-member.member-index < length c.args.members.now = omega arith in
    let e : chars (string_bytes c.push_in_any.new.out) ≡ (chars (string_bytes c.loop-member.out) ++ separator c.loop-member.is_first (codes " || ")) ++ in_any (spelling c.member-item.result) = search rules in
    turned (λ e. in_any (spelling e)) (codes " || ") (chars (string_bytes c.args.out.now)) c.args.members.now c.loop-member.is_first (chars (string_bytes c.loop-member.out)) _ c.loop-member.member-index c.member-item.result c.loop-member.invariant h c.member-item.is e

pub push_any-returns : goal.push_any-returns
push_any-returns t c = all_written in_any spelling (codes " || ") c.loop-member.is_first (chars (string_bytes c.args.out.now)) (chars (string_bytes c.loop-member.out)) c.args.members.now _ c.loop-member.invariant (take_all _ _ (omega arith))
