use Rattle.std.proofs.Common.{◌≡◌, ◌++◌, ◌<◌, ◌≤◌, ◌^◌, chars, string_bytes}
use Rattle.md_expr_print.specs.Literals.{decimals}
use Rattle.md_expr_print.proofs.literals.push_decimals.Given as goal

abbrev pub invariant-loop-rest : goal.invariant-loop-rest
invariant-loop-rest l = (chars (string_bytes l.out) ++ decimals l.left l.rest ≡ chars (string_bytes l.fn.out) ++ decimals l.fn.places l.fn.n) × (l.rest < 10 ^ l.left) × (l.left ≤ 9)

abbrev pub decreases-loop-rest : goal.decreases-loop-rest
decreases-loop-rest l = l.left
