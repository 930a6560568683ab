use denote.Exit.{no}
use denote.Param.{param}
use denote.Param.Send.{sendable, param_sync, arg_sync}
use Rattle.md_team.specs.contracts.team.Team as team
use Rattle.md_team.proofs.Crossing.{actor_sends, team_syncs}
use Rattle.md_team.proofs.team.run_all.Lts as lts
use Rattle.md_team.proofs.team.run_all.Goals as goal

pub spread-requires-send-X : goal.spread-requires-send-X
spread-requires-send-X g c κs within = search (sendable, actor_sends) depth 20

pub spread-requires-sync-S : goal.spread-requires-sync-S
spread-requires-sync-S g c κs within =
    param_sync 3 (lts.arg-0-3 g.row.R g.row.G g.R.laws g.G.laws g.R.Threads-dict g.R.Wait-dict g.G.Gate-dict κs)
    (arg_sync _ no (team.the_row _ (param 1 g.row.G)) (team_syncs _ (param 1 g.row.G) c.type_bounds.sync-G))
