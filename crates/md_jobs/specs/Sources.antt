-- What the jobs of a script are made of.
use Rattle.std.specs.Prelude.{ℤ, Option, Some}
use Rattle.md_value.specs.Values.{PathBytes}
use Rattle.md_world.specs.declared.Change.{Change}
use Rattle.md_world.specs.declared.Change.TheVariants as change
use Rattle.md_merge.specs.Jobs.{Job}
use Rattle.md_files.specs.FileAnswers.{FileAnswer, import_result}
use Rattle.md_files.specs.FileAnswers.FileAnswer.{given, absent, failed}
use Rattle.md_files.specs.declared.asking.ImportResult.{ImportResult}
use Rattle.md_live.specs.Actions.{Action, change_of}
use Rattle.md_live.specs.Actions.Action.{job, removal}
use Rattle.md_jobs.specs.declared.source.FileSource.{FileSource}
use Rattle.md_jobs.specs.declared.source.FileSource.TheVariants as file
use Rattle.md_jobs.specs.declared.source.Task.{Task}
use Rattle.md_jobs.specs.declared.source.Task.TheVariants as task
use Rattle.md_jobs.specs.declared.source.ScriptJob.{ScriptJob}

-- the answer that a tree gave, or would give, to the asking of a job's file
abbrev pub answer_of : FileSource → FileAnswer
answer_of (file.Read content) = given content.entry content.bytes
answer_of file.Absent = absent
answer_of file.Failed = failed

-- what the file gives, at an offset from UTC in minutes
abbrev pub given_by : ℤ → FileSource → ImportResult
given_by offset source = import_result offset (answer_of source)

-- what is done with a path
abbrev pub task_action : ℤ → PathBytes → Task → Action
task_action offset path (task.Put source) = job path (given_by offset source)
task_action offset path task.Remove = removal path

-- what a job does
abbrev pub action_in : ℤ → ScriptJob → Action
action_in offset j = task_action offset j.path j.task

-- the change that a task commits: the attributes that its file gives, or the removal
abbrev pub task_change : ℤ → Task → Option Change
task_change offset (task.Put source) = change_of (given_by offset source)
task_change offset task.Remove = Some change.Remove

abbrev pub job_in : ℤ → ScriptJob → Job
job_in offset j = record { path = j.path; change = task_change offset j.task }
