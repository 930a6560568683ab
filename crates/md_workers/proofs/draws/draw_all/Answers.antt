use Rattle.std.proofs.Common.{◌<◌, ◌∙◌, length, arith}
use Rattle.md_workers.proofs.Making.{job_there, path_there, draw_made}
use Rattle.md_workers.proofs.draws.draw_all.Goals as goal

pub loop-number-preserved : goal.loop-number-preserved
loop-number-preserved g c =
    let jobs = g.J.Jobs.jobs c.args.jobs.now in
    let number = c.loop-number.number in
    let inv = c.loop-number.invariant in
    let below : number < length jobs = omega (arith, c.loop-number-test.true, c.count-number-end.ensures) in
    let job = job_there jobs number below in
    let path = path_there jobs number job.0 c.in_ok-path.path job.1 c.in_ok-path.ensures in
    let same = c.in_ok-act.ensures.same in
    record {
      same = (same.0 ∙ inv.same.0, same.1 ∙ inv.same.1);
      count = omega (arith, c.in_ok-act.ensures.count, inv.count);
      made = draw_made jobs _ _ _ number job.0 _ job.1 path inv.made c.in_ok-act.ensures.made;
    }
