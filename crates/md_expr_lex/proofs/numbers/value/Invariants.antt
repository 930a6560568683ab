use Rattle.std.proofs.Common.{◌≡◌, ◌≤◌, ◌^◌, drop}
use Rattle.md_expr_tree.specs.Numbers.{value_of, value_after}
use Rattle.md_expr_lex.proofs.numbers.value.Given as goal

abbrev pub invariant-loop-d : goal.invariant-loop-d
invariant-loop-d l = (value_after l.all (drop l.d-index l.digits) ≡ value_of l.digits) × (l.all ≤ 2 ^ 63)
