-- The jobs of a script beside each other.
use Rattle.std.specs.Prelude.{ℤ, List}
use Rattle.md_jobs.specs.declared.source.ScriptJob.{ScriptJob}

-- an offset from UTC in minutes, and the jobs in the order of the script
pub record Sheet : Type 0 where
  pub offset : ℤ
  pub jobs : List ScriptJob
