use Rattle.std.proofs.Common.{ℤ, map, subst, arith}
use Rattle.md_merge.specs.Merging.{IsMerged}
use Rattle.md_jobs.specs.Sources.{job_in}
use Rattle.md_clients.specs.Asks.{asks_in}
use Rattle.md_concurrent.proofs.Running.{runs_so}
use Rattle.md_concurrent.proofs.concurrent.run_concurrently.Goals as goal

pub returns-clause-runs : goal.returns-clause-runs
returns-clause-runs g c =
    let now = c.args.start.now.moment in
    let offset = c.args.start.now.offset in
    let lines = c.args.lines.now in
    let jobs = c.in_ok-jobs.jobs.jobs in
    let journal = c.in_ok-hub.journal.items in
    let made = c.in_ok-jobs.ensures in
    let merged = subst (λ (o : ℤ). IsMerged (map (job_in o) jobs) (asks_in now offset lines) journal) made.offset c.in_ok-hub.ensures.merged in
    runs_so _ _ _ now offset lines jobs c.in_ok-hub.hub.state journal (omega (arith, made.few, c.requires.few)) made.jobs merged c.in_ok-hub.ensures.last
