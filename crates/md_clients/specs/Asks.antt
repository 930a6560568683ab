-- What the lines of a script ask a server for.
use Rattle.std.specs.Prelude.{ℕ, ℤ, ◌==◌, Bool, false, List, Option, None, Some, if◌then◌else◌}
use Rattle.std.specs.List.{filter_map}
use Rattle.md_machine.specs.declared.Event.{Event}
use Rattle.md_merge.specs.Journals.{is_by}
use Rattle.md_script.specs.declared.script.Line.{Line}
use Rattle.md_script.specs.declared.script.What.{What}
use Rattle.md_script.specs.declared.script.What.TheVariants as what
use Rattle.md_live.specs.Actions.{action_of}
use Rattle.md_jobs.specs.Scripts.{ask_of}

-- what a line asks, if it does, in a run that began now at an offset; what a tree gives is no matter of it
abbrev pub line_ask : ℤ → ℤ → Line → Option Event
line_ask now offset line = ask_of (action_of now offset line None)

-- what the lines ask, in order
abbrev pub asks_in : ℤ → ℤ → List Line → List Event
asks_in now offset lines = filter_map (line_ask now offset) lines

-- an event, if it is of this client
abbrev pub if_by : ℕ → Option Event → Option Event
if_by id None = None
if_by id (Some event) = if is_by id event then Some event else None

-- the client that asks something by a line, if one does
abbrev pub asker : What → Option ℕ
asker (what.Query client number expr scope order batch) = Some client
asker (what.Gather client number) = Some client
asker (what.Poll client number) = Some client
asker (what.Disable client number) = Some client
asker (what.Enable client number) = Some client
asker (what.Stop client number) = Some client
asker (what.Vacuum client) = Some client
asker _ = None

abbrev pub is_asker : ℕ → Option ℕ → Bool
is_asker id None = false
is_asker id (Some client) = client == id
