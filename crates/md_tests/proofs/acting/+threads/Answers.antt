use denote.Param.{param}
use denote.Param.Send.{sendable}
use Rattle.md_turn.proofs.Crossing.{turn_syncs}
use Rattle.md_turn.proofs.pass.Pass.TheSendSync as pass_sent
use Rattle.std.proofs.alloc.Global.TheSendSync as heap_sent
use Rattle.md_tests.proofs.acting.Plan.TheSendSync as plan_sent
use Rattle.md_tests.proofs.acting.+threads.Goals as goal

pub join-done-requires-send-F : goal.join-done-requires-send-F
join-done-requires-send-F g t c κs within =
    search (sendable, turn_syncs (param 0 g.row.C) g.C.Core c.requires.sends.0, pass_sent.the_send, heap_sent.the_field_send, plan_sent.the_field_send, c.requires.sends.1) depth 20
