-- That tables and what is handed out of them are lists of files in path order.
use Rattle.std.specs.Prelude.{ℕ, List}
use Rattle.std.specs.List.{AllByRecursion}
use Rattle.md_world.specs.Tables.{IsRowTable}
use Rattle.md_world.specs.Limits.{standard}
use Rattle.md_machine.specs.declared.Event.{Event}
use Rattle.md_machine.specs.Files.{HandsOutFiles}
use Rattle.md_machine.specs.Runs.{run, entries, versions as versions_of, received, held as held_by}

-- After these events tables, what replies hand out of them and what clients hold are lists of distinct paths other than the
-- root, in path order.
pub record FilesAscend (events : List Event) : Type 0 where
  -- Each version.
  pub versions : AllByRecursion IsRowTable (versions_of standard events)
  -- The newest table.
  pub newest : IsRowTable (run standard events).last.table
  -- The hits of each part, and the three lists of each notice.
  pub replies : AllByRecursion HandsOutFiles (run standard events).replies
  -- What any client holds of any query.
  pub held : (client number : ℕ) → IsRowTable (held_by (received client number (entries standard events)))
