use Rattle.std.proofs.Common.{map, take, chars, string_bytes, codes}
use Rattle.std.specs.List.{flat_map}
use Rattle.md_expr_print.specs.Literals.{escape}
use Rattle.md_expr_print.proofs.Joins.{Written}
use Rattle.md_expr_print.proofs.literals.push_pieces.Given as goal

abbrev pub invariant-loop-piece : goal.invariant-loop-piece
invariant-loop-piece l = Written (codes "*") l.is_first (chars (string_bytes l.fn.out)) (chars (string_bytes l.out)) (map (flat_map escape) (take l.piece-index l.pieces))
