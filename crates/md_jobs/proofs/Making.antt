-- The jobs of what is done, and those of a script.
use Rattle.std.proofs.Common.{◌≡◌, ℕ, zero, suc, ℤ, List, [], ◌∷◌, map, refl, sym, ◌∙◌, ap, Option, Some, IfSome, slice_get, slice_index_or}
use Rattle.std.specs.List.{filter_map, cons_option}
use Rattle.md_value.specs.Values.{PathBytes}
use Rattle.md_world.specs.declared.Change.{Change}
use Rattle.md_merge.specs.Jobs.{Job}
use Rattle.md_live.specs.Actions.{Action}
use Rattle.md_live.specs.Actions.Action.{job, removal, query, show}
use Rattle.md_jobs.specs.declared.source.ScriptJob.{ScriptJob}
use Rattle.md_jobs.specs.declared.source.Task.{Task}
use Rattle.md_jobs.specs.declared.source.Task.TheVariants as task
use Rattle.md_jobs.specs.Scripts.{job_of, jobs_of}
use Rattle.md_jobs.specs.Sources.{task_action, task_change, action_in, job_in}
use Rattle.md_jobs.specs.Reading.{job_action}

-- the jobs of what is done are those of the jobs among it
jobs_among : (actions : List Action) → jobs_of (filter_map job_action actions) ≡ jobs_of actions
jobs_among [] = refl
jobs_among (job path given ∷ actions) = ap (λ jobs. cons_option (job_of (job path given)) jobs) (jobs_among actions)
jobs_among (removal path ∷ actions) = ap (λ jobs. cons_option (job_of (removal path)) jobs) (jobs_among actions)
jobs_among (query event ∷ actions) = jobs_among actions
jobs_among (show client number ∷ actions) = jobs_among actions

task_job : (offset : ℤ) (path : PathBytes) (t : Task) → job_of (task_action offset path t) ≡ Some (record { path = path; change = task_change offset t })
task_job offset path (task.Put source) = refl
task_job offset path task.Remove = refl

jobs_made : (offset : ℤ) (jobs : List ScriptJob) → jobs_of (map (action_in offset) jobs) ≡ map (job_in offset) jobs
jobs_made offset [] = refl
jobs_made offset (j ∷ jobs) =
    ap (λ made. cons_option made (jobs_of (map (action_in offset) jobs))) (task_job offset j.path j.task) ∙ ap (λ (rest : List Job). job_in offset j ∷ rest) (jobs_made offset jobs)

-- the jobs that do what the jobs among what is done do are its jobs
pub jobs_are : (offset : ℤ) (jobs : List ScriptJob) (actions : List Action) → map (action_in offset) jobs ≡ filter_map job_action actions → map (job_in offset) jobs ≡ jobs_of actions
jobs_are offset jobs actions is = sym (jobs_made offset jobs) ∙ ap jobs_of is ∙ jobs_among actions

-- the change of the job at a number
pub job_there : (offset : ℤ) (jobs : List ScriptJob) (number : ℕ) (j : ScriptJob) (change : Option Change) → j ≡ slice_index_or jobs number j → change ≡ task_change offset j.task
    → IfSome (slice_get (map (job_in offset) jobs) number) (λ (job : Job). change ≡ job.change)
job_there offset [] number j change there is = tt
job_there offset (x ∷ jobs) zero j change there is = is ∙ ap (λ (k : ScriptJob). task_change offset k.task) there
job_there offset (x ∷ jobs) (suc number) j change there is = job_there offset jobs number j change there is
