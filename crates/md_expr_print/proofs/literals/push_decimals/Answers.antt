use Rattle.std.proofs.Common.{rules, ◌≡◌, ◌==◌, ◌+◌, ◌-◌, ◌/◌, ◌^◌, suc, false, ◌++◌, ◌∷◌, [], sym, arith, chars, string_bytes}
use Rattle.md_expr_print.proofs.Digits.{one_digit, one_left, rest_below}
use Rattle.md_expr_print.proofs.literals.push_decimals.Goals as goal

pub loop-rest-preserved : goal.loop-rest-preserved
loop-rest-preserved c =
    let unit : c.pow-unit.result ≡ 10 ^ (c.loop-rest.left - 1) = search rules in
    let some : (c.loop-rest.rest == 0) ≡ false = search rules in
    let one : c.loop-rest.left ≡ suc (c.loop-rest.left - 1) = one_left c.loop-rest.left c.loop-rest.rest some c.loop-rest.invariant.1 in
    let e : chars (string_bytes c.push_digit.new.out) ≡ chars (string_bytes c.loop-rest.out) ++ (48 + c.loop-rest.rest / 10 ^ (c.loop-rest.left - 1)) ∷ [] = rw (sym unit) c.in_ok-push_digit.ensures in
    rw unit (one_digit (c.loop-rest.left - 1) c.loop-rest.left c.loop-rest.rest _ _ _ one some e c.loop-rest.invariant.0, rest_below (c.loop-rest.left - 1) c.loop-rest.rest, omega (arith, c.loop-rest.invariant.2))
