use Rattle.std.proofs.Common.{rules, ◌≡◌, map, subst, IfOk, IfSome, slice_get, FitsSigned, w32}
use Rattle.std.proofs.lemmas.Int.{to_z-of_z}
use Rattle.std.proofs.lemmas.Result.{IfOk-weaker}
use Rattle.md_jobs.specs.Sheets.{Sheet}
use Rattle.md_jobs.specs.Sources.{job_in}
use Rattle.md_jobs.proofs.Making.{job_there}
use Rattle.md_jobs.proofs.jobs.ScriptJobsJobs.change.Goals as goal

pub returns : goal.returns
returns c =
    let fits : FitsSigned w32 c.self.inside.offset = search rules in
    let is = simp to_z-of_z at c.change.ensures in
    subst (λ (s : Sheet). IfOk c.change.result (λ change. IfSome (slice_get (map (job_in s.offset) s.jobs) c.args.number) (λ job. change ≡ job.change))) c.self.view_is
    (IfOk-weaker c.change.result _ _ (λ change so. job_there c.self.inside.offset c.self.inside.jobs.items c.args.number c.index.result.now change c.index.ensures so) is)
