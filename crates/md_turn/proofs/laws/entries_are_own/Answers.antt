use Rattle.std.proofs.Common.{◌≡◌, true}
use Rattle.md_turn.specs.declared.journal.JournalEntry.{JournalEntry}
use Rattle.md_turn.proofs.Entries.{ended_events}
use Rattle.md_turn.proofs.laws.entries_are_own.Goals as goal

pub returns : goal.returns
returns c test opening passes state journal ended all = ended_events (λ (e : JournalEntry). test e ≡ true) opening passes state journal ended all
