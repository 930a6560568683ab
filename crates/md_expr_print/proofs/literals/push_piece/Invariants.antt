use Rattle.std.proofs.Common.{◌≡◌, ◌++◌, chars, string_bytes}
use Rattle.std.specs.List.{flat_map}
use Rattle.md_expr_print.specs.Literals.{escape}
use Rattle.md_expr_print.proofs.literals.push_piece.Given as goal

abbrev pub invariant-loop-c : goal.invariant-loop-c
invariant-loop-c l = chars (string_bytes l.out) ≡ chars (string_bytes l.initial.out) ++ flat_map escape l.yielded
