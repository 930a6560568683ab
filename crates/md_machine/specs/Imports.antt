-- Files that are imported one by one: a ticket is drawn for each, and its change is committed at once.
use Rattle.std.specs.Prelude.{◌≡◌, ℕ, ◌+◌, ◌≤◌, List, [], ◌∷◌, length}
use Rattle.std.specs.List.{AllByRecursion}
use Rattle.md_value.specs.Values.{PathBytes}
use Rattle.md_world.specs.declared.Change.{Change}
use Rattle.md_world.specs.declared.Limits.{Limits}
use Rattle.md_machine.specs.declared.Event.{Event}
use Rattle.md_machine.specs.declared.Event.TheVariants as event
use Rattle.md_machine.specs.declared.Reply.{Reply}
use Rattle.md_machine.specs.declared.Reply.TheVariants as reply
use Rattle.md_machine.specs.States.{State}
use Rattle.md_machine.specs.Steps.{step}

-- the events that import files, after so many tickets were drawn
abbrev pub imports : ℕ → List (PathBytes × Change) → List Event
imports drawn [] = []
imports drawn (file ∷ files) = event.Draw file.0 ∷ event.Commit (drawn + 1) file.1 ∷ imports (drawn + 1) files

-- the replies to them, where all are accepted: the next ticket, and the version of its number
abbrev pub acceptances : ℕ → List (PathBytes × Change) → List Reply
acceptances drawn [] = []
acceptances drawn (file ∷ files) = reply.Ticket (drawn + 1) ∷ reply.Committed (drawn + 1) ∷ acceptances (drawn + 1) files

-- no ticket is open, none that is still to be drawn was committed, and there are tickets and paths for so many files more
pub record HasRoom (limits : Limits) (files : ℕ) (s : State) : Type 0 where
  pub same : s.limits ≡ limits
  pub open_tickets : s.tickets ≡ []
  pub older : AllByRecursion (λ stamp. stamp.ticket ≤ s.drawn) s.stamps
  pub tickets : s.drawn + files ≤ limits.tickets
  pub paths : length s.stamps + files ≤ limits.paths

-- the state after a draw and the commit of its ticket
abbrev pub imported : State → PathBytes → Change → State
imported s path change = (step (step s (event.Draw path)).state (event.Commit (s.drawn + 1) change)).state

-- a file is imported: its ticket and its version are the next ones, and there is room for so many files more
pub record IsAccepted (limits : Limits) (files : ℕ) (s : State) (path : PathBytes) (change : Change) : Type 0 where
  pub ticket : (step s (event.Draw path)).reply ≡ reply.Ticket (s.drawn + 1)
  pub committed : (step (step s (event.Draw path)).state (event.Commit (s.drawn + 1) change)).reply ≡ reply.Committed (s.version + 1)
  pub room : HasRoom limits files (imported s path change)
