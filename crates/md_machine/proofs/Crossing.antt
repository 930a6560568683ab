-- Events, and what a query asks, may go from thread to thread.

use denote.Struct.Declared as struct
use denote.Enum.Declared as enum
use denote.Param.Send.{IsSend, plain_send, struct_send, enum_send, recorded_send}
use Rattle.md_value.proofs.path.Path.TheSendSync as path_sent
use Rattle.md_world.proofs.order.Order.TheSendSync as order_sent
use Rattle.md_world.proofs.Change.TheSendSync as change_sent
use Rattle.md_expr_tree.proofs.Crossing.{expr_field_sends}
use Rattle.md_machine.specs.contracts.Spec as spec
use Rattle.md_machine.specs.contracts.Event as event
use Rattle.md_machine.proofs.Batch.TheSendSync as batch_sent

pub spec_field_sends : IsSend (spec.the_field).row
spec_field_sends =
    struct_send (struct.shape spec.the_type)
    (expr_field_sends, (plain_send _ _ _ _ _, (plain_send _ _ _ _ _, (path_sent.the_send, (order_sent.the_send, (batch_sent.the_field_send, tt))))))

pub event_field_sends : IsSend (event.the_field).row
event_field_sends =
    enum_send (enum.shape event.the_type) (
      (path_sent.the_send, tt),
      (
        (plain_send _ _ _ _ _, (change_sent.the_field_send, tt)),
        (
          (plain_send _ _ _ _ _, tt),
          (
            (plain_send _ _ _ _ _, (plain_send _ _ _ _ _, (spec_field_sends, tt))),
            (
              (plain_send _ _ _ _ _, (plain_send _ _ _ _ _, (plain_send _ _ _ _ _, tt))),
              (
                (plain_send _ _ _ _ _, (plain_send _ _ _ _ _, tt)),
                (
                  (plain_send _ _ _ _ _, (plain_send _ _ _ _ _, (plain_send _ _ _ _ _, tt))),
                  (
                    (plain_send _ _ _ _ _, (plain_send _ _ _ _ _, (plain_send _ _ _ _ _, tt))),
                    ((plain_send _ _ _ _ _, (plain_send _ _ _ _ _, tt)), ((plain_send _ _ _ _ _, tt), tt)),
                  ),
                ),
              ),
            ),
          ),
        ),
      ),
    )

pub event_sends : IsSend event.the_row
event_sends = recorded_send (event.the_field).row _ _ (event.the_type).to_one event_field_sends
