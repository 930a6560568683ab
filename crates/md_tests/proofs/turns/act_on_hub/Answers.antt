use denote.Param.Send.{sendable}
use Rattle.md_hub.proofs.Crossing.{hub_sends}
use Rattle.md_tests.proofs.turns.act_on_hub.Goals as goal

pub acts_of-requires-send-C : goal.acts_of-requires-send-C
acts_of-requires-send-C g c κs within = search (sendable, hub_sends) depth 20
