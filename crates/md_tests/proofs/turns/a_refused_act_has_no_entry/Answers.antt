use denote.Struct.Declared as struct
use denote.Param.Send.{IsSend, sendable, plain_send, struct_send, recorded_send}
use Rattle.md_hub.proofs.Crossing.{hub_sends}
use Rattle.md_tests.specs.contracts.sparing.Sparing as sparing
use Rattle.md_tests.proofs.turns.a_refused_act_has_no_entry.Goals as goal

sparing_sends : IsSend sparing.the_row
sparing_sends = recorded_send (sparing.the_field).row _ _ (sparing.the_type).to_one (struct_send (struct.shape sparing.the_type) (hub_sends, (plain_send _ _ _ _ _, tt)))

pub draw_and_vacuum-requires-send-C : goal.draw_and_vacuum-requires-send-C
draw_and_vacuum-requires-send-C g c κs = search (sendable, sparing_sends) depth 20
