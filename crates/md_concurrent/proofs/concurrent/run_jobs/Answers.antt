use Rattle.std.proofs.Common.{arith}
use Rattle.std.proofs.lemmas.Result.{IfOk-weaker}
use Rattle.md_workers.specs.Teams.{actor_share}
use Rattle.md_clients.specs.Asks.{asks_in}
use Rattle.md_concurrent.proofs.Short.{clients_few}
use Rattle.md_concurrent.proofs.concurrent.run_jobs.Goals as goal

pub run_team-requires-clause-clients : goal.run_team-requires-clause-clients
run_team-requires-clause-clients g c κs within = (
  c.in_ok-clients.ensures.few,
  clients_few c.args.start.now.moment c.args.start.now.offset c.args.lines.now actor_share c.in_ok-clients.clients.items (omega (arith, c.requires.few.0)) c.in_ok-clients.ensures.ask,
)

pub returns-clause-merged : goal.returns-clause-merged
returns-clause-merged g c =
    IfOk-weaker c.run_team.result _ _ (λ r merged. merged (asks_in c.args.start.now.moment c.args.start.now.offset c.args.lines.now) c.in_ok-clients.ensures.ask) c.run_team.ensures.merged
