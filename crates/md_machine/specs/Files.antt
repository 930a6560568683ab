-- Replies that hand out files in path order, and events that draw tickets for files alone.
use Rattle.std.specs.Prelude.{◌≢◌, List, []}
use Rattle.std.specs.List.{AllByRecursion}
use Rattle.md_world.specs.Tables.{IsRowTable, AscendFrom}
use Rattle.md_world.specs.declared.Notice.{Notice}
use Rattle.md_machine.specs.declared.Event.{Event}
use Rattle.md_machine.specs.declared.Event.TheVariants as event
use Rattle.md_machine.specs.declared.Reply.{Reply}
use Rattle.md_machine.specs.declared.Reply.TheVariants as reply

-- an event draws no ticket for the root, whose path is empty
abbrev pub IsNoRootDraw : Event → Type 0
IsNoRootDraw (event.Draw path) = path ≢ []
IsNoRootDraw _ = Unit {0}

abbrev pub DrawsNoRoot : List Event → Type 0
DrawsNoRoot events = AllByRecursion IsNoRootDraw events

-- each list of a notice has distinct paths other than the root, ascending
pub record NamesFiles (notice : Notice) : Type 0 where
  pub added : IsRowTable notice.added
  pub changed : IsRowTable notice.changed
  pub removed : AscendFrom [] notice.removed

-- the rows and the paths that a reply hands out have distinct paths other than the root, ascending
abbrev pub HandsOutFiles : Reply → Type 0
HandsOutFiles (reply.Progress part) = IsRowTable part.hits
HandsOutFiles (reply.Finished part base) = IsRowTable part.hits
HandsOutFiles (reply.Notice notice) = NamesFiles notice
HandsOutFiles _ = Unit {0}
