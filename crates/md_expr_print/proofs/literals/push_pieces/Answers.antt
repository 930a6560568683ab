use Rattle.std.proofs.Common.{rules, ◌≡◌, ◌<◌, ◌++◌, length, arith, chars, string_bytes, codes}
use Rattle.std.specs.List.{flat_map}
use Rattle.md_expr_print.specs.Literals.{escape, separator}
use Rattle.md_expr_print.proofs.Joins.{turned}
use Rattle.md_expr_print.proofs.literals.push_pieces.Goals as goal

pub loop-piece-preserved : goal.loop-piece-preserved
loop-piece-preserved c =
    let h : c.loop-piece.piece-index < length c.args.pieces.now = omega arith in
    let e : chars (string_bytes c.push_piece.new.out) ≡ (chars (string_bytes c.loop-piece.out) ++ separator c.loop-piece.is_first (codes "*")) ++ flat_map escape c.piece-item.result = search rules in
    turned (flat_map escape) (codes "*") (chars (string_bytes c.args.out.now)) c.args.pieces.now c.loop-piece.is_first (chars (string_bytes c.loop-piece.out)) _ c.loop-piece.piece-index c.piece-item.result c.loop-piece.invariant h c.piece-item.is e
