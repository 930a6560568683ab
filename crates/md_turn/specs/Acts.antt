-- What an act leaves.
use Rattle.std.specs.Prelude.{◌≡◌, ℕ, List, [], ◌∷◌, ◌++◌, length, Option, Some, false}
use Rattle.atomic_table.specs.Table.{Me}
use Rattle.md_machine.specs.declared.Event.{Event}
use Rattle.md_machine.specs.declared.Reply.{Reply}
use Rattle.md_turn.specs.declared.journal.JournalEntry.{JournalEntry}
use Rattle.md_turn.specs.declared.journaled.Journaled.{Journaled}
use Rattle.md_turn.specs.declared.rule.View.{View}
use Rattle.md_machine.specs.States.{State as ServerState}
use Rattle.md_machine.specs.Steps.{step}
use Rattle.md_turn.specs.Journal.{entry, IsJournal, Apart}
use Rattle.md_turn.specs.Turns.{Follows}

abbrev pub journal_of : {C : Type 0} → Journaled C → List JournalEntry
journal_of h = h.journal.items

abbrev pub state_of : {C : Type 0} → (C → ServerState) → Journaled C → ServerState
state_of state h = state h.core

-- the seat has the slot, whose value has this journal and the state after it
abbrev pub Carries : {C : Type 0} → (C → ServerState) → ServerState → List JournalEntry → List (ℕ × Option (Journaled C)) → Type 0
Carries {C} state opening journal carried = (h : Journaled C) × (carried ≡ (0, Some h) ∷ []) × Follows step journal_of (state_of state) opening journal h

-- no ticket, and no slot
abbrev pub Rests : {C : Type 0} → Me (Option (Journaled C)) View → Type 0
Rests me = (me.0.waits ≡ false) × (me.0.holds ≡ false) × (me.1 ≡ [])

-- what is now seen is what was seen, entries of others, and then the own entry, whose place is the length; the replies are the machine's
pub record Acted (opening : ServerState) (seen own seen' own' : List JournalEntry) (event : Event) (place : ℕ) (reply : Reply) : Type 0 where
  pub others : List JournalEntry
  pub seen_is : seen' ≡ (seen ++ others) ++ entry place event reply ∷ []
  pub place_is : place ≡ length seen'
  pub legal : IsJournal opening seen'
  pub own_is : own' ≡ own ++ entry place event reply ∷ []
  pub apart : Apart own others

-- no entry was made
pub record Unacted (opening : ServerState) (seen own seen' own' : List JournalEntry) : Type 0 where
  pub others : List JournalEntry
  pub seen_is : seen' ≡ seen ++ others
  pub legal : IsJournal opening seen'
  pub own_is : own' ≡ own
  pub apart : Apart own others
