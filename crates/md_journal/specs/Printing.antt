-- What is printed of a journal.
use Rattle.std.specs.Prelude.{List, map}
use Rattle.md_machine.specs.Runs.{Entry}
use Rattle.md_turn.specs.declared.journal.JournalEntry.{JournalEntry}

-- the events of the journal, each beside its reply
abbrev pub entries_in : List JournalEntry → List Entry
entries_in journal = map (λ (e : JournalEntry). (e.event, e.reply)) journal
