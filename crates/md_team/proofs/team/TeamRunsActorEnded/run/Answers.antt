use denote.Param.Send.{sendable}
use Rattle.md_hub.proofs.Crossing.{hub_sends}
use Rattle.md_team.proofs.team.TeamRunsActorEnded.run.Goals as goal

pub run_actor-requires-send-C : goal.run_actor-requires-send-C
run_actor-requires-send-C g c κs within = search (sendable, hub_sends) depth 20
