-- What a merged journal says of the script that its jobs and its clients are of.
use Rattle.std.proofs.Common.{◌≡◌, ℕ, ◌≤◌, ℤ, List, length, map, sym, ap, subst, arith, Option}
use Rattle.md_source.specs.Tree.{Content}
use Rattle.md_world.specs.declared.TheConstants.Limits.{STANDARD}
use Rattle.md_machine.specs.declared.Event.{Event}
use Rattle.md_machine.specs.States.{State}
use Rattle.md_machine.specs.Runs.{run}
use Rattle.md_turn.specs.declared.journal.JournalEntry.{JournalEntry}
use Rattle.md_merge.specs.Jobs.{Job}
use Rattle.md_merge.specs.Journals.{events_in}
use Rattle.md_merge.specs.Merging.{IsMerged}
use Rattle.md_merge.proofs.Tabling.{table_is, never_full}
use Rattle.md_script.specs.declared.script.Line.{Line}
use Rattle.md_live.specs.Actions.{actions_of}
use Rattle.md_jobs.specs.declared.source.ScriptJob.{ScriptJob}
use Rattle.md_jobs.specs.Scripts.{jobs_of, asks_of}
use Rattle.md_jobs.specs.Sources.{job_in}
use Rattle.md_jobs.specs.Reading.{Reads}
use Rattle.md_jobs.proofs.Making.{jobs_are}
use Rattle.md_clients.specs.Asks.{asks_in}
use Rattle.md_clients.proofs.Asking.{asks_are}
use Rattle.md_team.proofs.Running.{lengths}
use Rattle.md_concurrent.specs.Runs.{RunsConcurrently}

pub runs_so : (known : Option Content) (before after : ℕ) (now offset : ℤ) (lines : List Line) (jobs : List ScriptJob) (state : State) (journal : List JournalEntry)
    → length jobs ≤ 100000 → Reads known before after now offset lines jobs → IsMerged (map (job_in offset) jobs) (asks_in now offset lines) journal → state ≡ (run STANDARD (events_in journal)).last
    → RunsConcurrently known before after now offset lines jobs state journal
runs_so known before after now offset lines jobs state journal few reads merged last =
    let actions = actions_of now offset lines reads.givens in
    let same : map (job_in offset) jobs ≡ jobs_of actions = jobs_are offset jobs actions reads.is in
    let asks : asks_of actions ≡ asks_in now offset lines = asks_are known before after now offset lines reads.givens reads.given in
    let merge : IsMerged (jobs_of actions) (asks_of actions) journal =
    subst (λ (js : List Job). IsMerged js (asks_of actions) journal) same (subst (λ (es : List Event). IsMerged (map (job_in offset) jobs) es journal) (sym asks) merged) in
    let short : length (jobs_of actions) ≤ 100000 = omega (arith, few, ap length same, lengths (job_in offset) jobs) in
    record {
      givens = reads.givens;
      given = reads.given;
      jobs_are = reads.is;
      merge = merge;
      last = last;
      table = table_is (jobs_of actions) (asks_of actions) journal short merge;
      room = never_full (jobs_of actions) (asks_of actions) journal short merge;
    }
