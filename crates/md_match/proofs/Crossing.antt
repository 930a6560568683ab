-- A filter may go from thread to thread.

use denote.RattleType.{RattleType}
use denote.Hole.{as_row}
use denote.Hole.FixLaws.{layer_row}
use denote.Hole.FixSend.{Sends, fix_send}
use denote.Struct.Field.{row_field}
use denote.Struct.Declared as struct
use denote.Enum.Declared as enum
use denote.Param.Send.{IsSend, struct_send, enum_send, recorded_send, view_send}
use denote.Param.SendFields.{as_row_send, variants_send}
use Rattle.sqlite_items.specs.contracts.boxed.Boxed as boxed
use Rattle.sqlite_items.specs.contracts.items.Items as items
use Rattle.sqlite_items.proofs.boxed.Boxed.TheSendSync as boxed_sent
use Rattle.sqlite_items.proofs.items.Items.TheSendSync as items_sent
use Rattle.md_value.proofs.path.Path.TheSendSync as path_sent
use Rattle.md_time.proofs.local_time.LocalTime.TheSendSync as local_sent
use Rattle.md_expr_tree.proofs.Crossing.{expr_field_sends}
use Rattle.md_match.specs.contracts.check.Check as check
use Rattle.md_match.proofs.check.Check.TheSendSync as check_sent
use Rattle.md_match.specs.contracts.ready.Ready as ready
use Rattle.md_match.specs.contracts.ready.Ready.TheKnot as knot
use Rattle.md_match.specs.contracts.filter.Filter as filter
use Rattle.md_match.specs.contracts.filter.Filter.TheInside as inside

-- what is ready holds others that are, so this is shown of one layer of it first
layer_sends : (h : knot.the_members → RattleType) → ((j : knot.the_members) → IsSend (h j)) → IsSend (layer_row knot.ring knot.member-Ready h)
layer_sends h each =
    let hole : RattleType = h knot.member-Ready in
    let sent : IsSend hole = each knot.member-Ready in
    variants_send (knot.type-Ready hole hole hole) (
      (as_row_send (row_field (as_row check.the_field)) check_sent.the_send, tt),
      (
        (as_row_send (row_field (boxed.the_row hole)) (boxed_sent.the_send hole sent), tt),
        (
          (as_row_send (row_field (items.the_row hole)) (items_sent.the_send hole sent), tt),
          ((as_row_send (row_field (items.the_row hole)) (items_sent.the_send hole sent), tt), tt),
        ),
      ),
    )

hole_sends : IsSend ready.the_hole
hole_sends = fix_send knot.ring (ready.by_members (λ i. Sends knot.ring i) record { send = layer_sends }) knot.member-Ready

ready_field_sends : IsSend (ready.the_field).row
ready_field_sends =
    enum_send (enum.shape ready.the_type) (
      (check_sent.the_field_send, tt),
      (
        (boxed_sent.the_send ready.the_hole hole_sends, tt),
        ((items_sent.the_send ready.the_hole hole_sends, tt), ((items_sent.the_send ready.the_hole hole_sends, tt), tt)),
      ),
    )

inside_sends : IsSend inside.the_row
inside_sends =
    recorded_send (inside.the_field).row _ _ (inside.the_type).to_one
    (struct_send (struct.shape inside.the_type) (expr_field_sends, (local_sent.the_field_send, (path_sent.the_send, (ready_field_sends, tt)))))

pub filter_sends : IsSend filter.the_row
filter_sends = search (view_send, inside_sends)
