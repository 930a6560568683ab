-- What the run of a script comes to, in numbers.
use Rattle.std.specs.Prelude.{◌≡◌, ℕ, ℤ, List, length, map, Option, None, Some}
use Rattle.md_world.specs.Limits.{standard}
use Rattle.md_source.specs.Tree.{Content}
use Rattle.md_machine.specs.declared.Event.{Event}
use Rattle.md_machine.specs.States.{Query, query_at}
use Rattle.md_machine.specs.Runs.{Entry, run, entries, received, held}
use Rattle.md_files.specs.declared.asking.ImportResult.{ImportResult}
use Rattle.md_script.specs.declared.script.Line.{Line}
use Rattle.md_live.specs.Given.{AreGiven}
use Rattle.md_live.specs.Actions.{actions_of}
use Rattle.md_live.specs.Events.{run_events}
use Rattle.md_live.specs.Tallies.{tally_of}
use Rattle.md_live.specs.declared.sums.Sum.{Sum}

-- how many rows the client of a live query holds by the entries; none where there is no such query
abbrev pub held_count : List Entry → ℕ → ℕ → Option Query → ℕ
held_count all client number None = 0
held_count all client number (Some q) = length (held (received client number all))

-- the same for a client's query 1 after these events
abbrev pub held_after : List Event → ℕ → ℕ
held_after events client = held_count (entries standard events) client 1 (query_at (run standard events).last.queries client 1)

-- what the run of these events from the opening state comes to, and how many rows each of the clients holds at its end
abbrev pub sum_of : List Event → List ℕ → Sum
sum_of events clients =
    record {
      events = length events;
      version = (run standard events).last.version;
      rows = length (run standard events).last.table;
      tally = tally_of (run standard events).replies;
      held = map (held_after events) clients;
    }

-- the sum is that of a run of these lines, which began now at an offset, with what the tree gives to each line
pub record Sums (received : Option Content) (before after : ℕ) (now offset : ℤ) (lines : List Line) (clients : List ℕ) (sum : Sum) : Type 0 where
  pub givens : List (Option ImportResult)
  pub given : AreGiven offset received before after lines givens
  pub is : sum ≡ sum_of (run_events (actions_of now offset lines givens)) clients
