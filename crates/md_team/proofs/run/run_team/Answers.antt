use Rattle.std.proofs.Common.{map}
use denote.Param.Send.{sendable}
use Rattle.std.proofs.lemmas.Result.{IfOk-weaker}
use Rattle.md_jobs.specs.Sources.{job_in}
use Rattle.md_hub.proofs.Crossing.{hub_sends}
use Rattle.md_team.proofs.Running.{run_merged}
use Rattle.md_team.proofs.run.run_team.Goals as goal

pub new-requires-send-C : goal.new-requires-send-C
new-requires-send-C g c κs = search (sendable, hub_sends) depth 20

pub returns-clause-merged : goal.returns-clause-merged
returns-clause-merged g c =
    let jobs = map (job_in c.args.jobs.now.offset) c.args.jobs.now.jobs in
    IfOk-weaker c.run_with.result _ _ (λ r run asked ask. run_merged jobs asked c.args.clients.items c.args.workers r.0.state r.1.items (run asked ask)) c.run_with.ensures.run

pub returns-clause-last : goal.returns-clause-last
returns-clause-last g c = c.run_with.ensures.last
