-- Actors may go from thread to thread, and threads may share a lock round a server.

use denote.Struct.Declared as struct
use denote.Enum.Declared as enum
use denote.RattleType.{RattleType}
use denote.Ref.{NamedLft}
use denote.Param.Send.{IsSend, IsSync, sendable, plain_send, struct_send, enum_send, recorded_send, struct_sync, recorded_sync}
use Rattle.std.proofs.alloc.Global.TheSendSync as heap_sent
use Rattle.md_value.proofs.plain_vec.PlainVec.TheSendSync as items_sent
use Rattle.md_machine.specs.contracts.Event as event
use Rattle.md_machine.proofs.Crossing.{event_sends}
use Rattle.md_turn.specs.contracts.turn.Turn as turn
use Rattle.md_turn.proofs.Crossing.{turn_syncs}
use Rattle.md_turn.proofs.pass.Pass.TheSendSync as pass_sent
use Rattle.md_pool.proofs.seat.ClaimSeat.TheSendSync as seat_sent
use Rattle.md_pool.proofs.claims.Claims.TheSendSync as claims_sent
use Rattle.md_jobs.proofs.jobs.ScriptJobs.TheSendSync as jobs_sent
use Rattle.md_team.specs.contracts.team.Team as team
use Rattle.md_workers.specs.contracts.actor.Client as client
use Rattle.md_workers.specs.contracts.actor.Role as role
use Rattle.md_workers.specs.contracts.actor.Actor as actor
use Rattle.md_hub.specs.contracts.hub.Hub as hub
use Rattle.md_hub.specs.contracts.as_core.HubCore.TheImpl as hub_core
use Rattle.md_hub.proofs.Crossing.{hub_sends}

client_field_sends : IsSend (client.the_field).row
client_field_sends = struct_send (struct.shape client.the_type) (plain_send _ _ _ _ _, (items_sent.the_send event.the_row event_sends, tt))

role_field_sends : IsSend (role.the_field).row
role_field_sends = enum_send (enum.shape role.the_type) ((client_field_sends, tt), ((seat_sent.the_send, tt), tt))

actor_field_sends : IsSend (actor.the_field).row
actor_field_sends = struct_send (struct.shape actor.the_type) (plain_send _ _ _ _ _, (pass_sent.the_send, (role_field_sends, tt)))

pub actor_sends : IsSend actor.the_row
actor_sends = recorded_send (actor.the_field).row _ _ (actor.the_type).to_one actor_field_sends

pub hub_turn_syncs : IsSync (turn.the_row hub.the_row hub_core.ghosts)
hub_turn_syncs = turn_syncs hub.the_row hub_core.ghosts hub_sends

-- what a team shares
pub team_syncs : (l : NamedLft) (G : RattleType) → IsSync G → IsSync (team.the_row l G)
team_syncs l G g =
    recorded_sync (team.the_field l G).row _ _ (team.the_type l G).to_one
    (struct_sync (struct.shape (team.the_type l G)) (
      heap_sent.the_field_sync,
      (
        search (sendable, hub_turn_syncs) depth 8,
        (search (sendable, claims_sent.the_sync) depth 8, (search (sendable, jobs_sent.the_sync) depth 8, (search (sendable, g) depth 8, tt))),
      ),
    ))
