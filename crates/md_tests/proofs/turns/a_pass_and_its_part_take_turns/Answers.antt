use denote.Param.Send.{sendable}
use Rattle.md_hub.proofs.Crossing.{hub_sends}
use Rattle.md_tests.proofs.turns.a_pass_and_its_part_take_turns.Goals as goal

pub take_turns-requires-send-C : goal.take_turns-requires-send-C
take_turns-requires-send-C g c κs = search (sendable, hub_sends) depth 20
