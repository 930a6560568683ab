-- A query may go from thread to thread.

use denote.Struct.Declared as struct
use denote.Param.Send.{IsSend, plain_send, struct_send, recorded_send, view_send}
use Rattle.md_match.proofs.Crossing.{filter_sends}
use Rattle.md_machine.proofs.Crossing.{spec_field_sends}
use Rattle.md_query.proofs.query.Progressed.TheSendSync as progressed_sent
use Rattle.md_query.specs.contracts.query.Query as query
use Rattle.md_query.specs.contracts.query.Query.TheInside as inside

inside_sends : IsSend inside.the_row
inside_sends =
    recorded_send (inside.the_field).row _ _ (inside.the_type).to_one
    (struct_send (struct.shape inside.the_type) (spec_field_sends, (filter_sends, (progressed_sent.the_field_send, (plain_send _ _ _ _ _, (plain_send _ _ _ _ _, (plain_send _ _ _ _ _, tt)))))))

pub query_sends : IsSend query.the_row
query_sends = search (view_send, inside_sends)
