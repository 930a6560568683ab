-- An expression may go from thread to thread.

use denote.RattleType.{RattleType}
use denote.Hole.{as_row}
use denote.Hole.FixLaws.{layer_row}
use denote.Hole.FixSend.{Sends, fix_send}
use denote.Struct.Field.{row_field}
use denote.Enum.Declared as enum
use denote.Param.Send.{IsSend, enum_send, recorded_send}
use denote.Param.SendFields.{as_row_send, variants_send}
use Rattle.sqlite_items.specs.contracts.boxed.Boxed as boxed
use Rattle.sqlite_items.specs.contracts.items.Items as items
use Rattle.sqlite_items.proofs.boxed.Boxed.TheSendSync as boxed_sent
use Rattle.sqlite_items.proofs.items.Items.TheSendSync as items_sent
use Rattle.md_expr_tree.specs.contracts.tree.Test as test
use Rattle.md_expr_tree.specs.contracts.tree.Expr as expr
use Rattle.md_expr_tree.specs.contracts.tree.Expr.TheKnot as knot
use Rattle.md_expr_tree.proofs.tree.Test.TheSendSync as test_sent

-- an expression holds expressions, so this is shown of one layer of it first
layer_sends : (h : knot.the_members → RattleType) → ((j : knot.the_members) → IsSend (h j)) → IsSend (layer_row knot.ring knot.member-Expr h)
layer_sends h each =
    let hole : RattleType = h knot.member-Expr in
    let sent : IsSend hole = each knot.member-Expr in
    variants_send (knot.type-Expr hole hole hole) (
      (as_row_send (row_field (as_row test.the_field)) test_sent.the_send, tt),
      (
        (as_row_send (row_field (boxed.the_row hole)) (boxed_sent.the_send hole sent), tt),
        (
          (as_row_send (row_field (items.the_row hole)) (items_sent.the_send hole sent), tt),
          ((as_row_send (row_field (items.the_row hole)) (items_sent.the_send hole sent), tt), tt),
        ),
      ),
    )

-- what stands for an expression inside of another one
pub hole_sends : IsSend expr.the_hole
hole_sends = fix_send knot.ring (expr.by_members (λ i. Sends knot.ring i) record { send = layer_sends }) knot.member-Expr

pub expr_field_sends : IsSend (expr.the_field).row
expr_field_sends =
    enum_send (enum.shape expr.the_type) (
      (test_sent.the_field_send, tt),
      (
        (boxed_sent.the_send expr.the_hole hole_sends, tt),
        ((items_sent.the_send expr.the_hole hole_sends, tt), ((items_sent.the_send expr.the_hole hole_sends, tt), tt)),
      ),
    )

pub expr_sends : IsSend expr.the_row
expr_sends = recorded_send (expr.the_field).row _ _ (expr.the_type).to_one expr_field_sends
