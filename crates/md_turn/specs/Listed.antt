-- The rule of the lock as its readers know it. The table keeps a stronger one, which each step hands on.
use Rattle.std.specs.Prelude.{◌≡◌, ℕ, ◌+◌, ◌<◌, ◌≤◌, List, [], ◌∷◌, length, All, true, false, Option, Some}
use mathlib.Core.Option.{some}
use lib.ListN.{get_elem?}
use Rattle.atomic_table.specs.Table.{State}
use Rattle.md_machine.specs.declared.Event.{Event}
use Rattle.md_machine.specs.States.{State as ServerState}
use Rattle.md_machine.specs.Steps.{StepResult}
use Rattle.md_turn.specs.declared.journal.JournalEntry.{JournalEntry}
use Rattle.md_turn.specs.declared.rule.View.{View}
use Rattle.md_turn.specs.Journal.{Legal, IsPrefix, Has, total_of, times, once_below}
use Rattle.md_turn.specs.Turns.{whole_share, waiting, acts, Queued, Follows}

module _ (machine : ServerState → Event → StepResult) {H : Type 0} (journal_of : H → List JournalEntry) (state_of : H → ServerState) (opening : ServerState) where
  pub record Listed (s : State (Option H) View) : Type 0 where
    pub ticket : ℕ
    pub serving : ℕ
    pub journal : List JournalEntry
    pub words_are : s.words ≡ ticket ∷ serving ∷ []
    -- tickets
    pub waits : serving + total_of waiting s.views ≡ ticket
    pub tickets : (id : ℕ) (v : View) → get_elem? s.views id ≡ some v → v.waits ≡ true → (serving ≤ v.ticket) × (v.ticket < ticket)
    pub distinct : Queued s.views
    -- the turn
    pub one_holds : (i j : ℕ) (v w : View) → get_elem? s.views i ≡ some v → get_elem? s.views j ≡ some w → v.holds ≡ true → w.holds ≡ true → i ≡ j
    pub holder : (id : ℕ) (v : View) → get_elem? s.views id ≡ some v → v.holds ≡ true → (v.ticket ≡ serving) × (v.seen ≡ journal)
    -- the journal
    pub legal : Legal machine 0 opening journal
    pub idle : ((id : ℕ) (v : View) → get_elem? s.views id ≡ some v → v.holds ≡ false) → (h : H) × (s.homes ≡ some (Some h) ∷ []) × Follows machine journal_of state_of opening journal h
    pub counted : length journal + total_of (λ (v : View). v.refused) s.views ≡ serving
    -- what views have seen and own
    pub seen : (id : ℕ) (v : View) → get_elem? s.views id ≡ some v → IsPrefix v.seen journal
    pub own : (id : ℕ) (v : View) → get_elem? s.views id ≡ some v → All (Has v.seen) v.own
    pub owned : (i : ℕ) → total_of (λ (v : View). times i v.own) s.views ≡ once_below i (length journal)
    -- shares
    pub shares : total_of (λ (v : View). v.share) s.views ≡ whole_share
    pub within : (id : ℕ) (v : View) → get_elem? s.views id ≡ some v → acts v ≤ v.share
