-- A ticket lock: two words, and a slot that is at home while no view holds the turn. The slot has a core and its journal.
use Rattle.std.specs.Prelude.{◌≡◌, ℕ, ◌+◌, ◌-◌, ◌<◌, ◌≤◌, ◌==◌, List, [], ◌∷◌, ◌++◌, length, All, Bool, true, false, Option, Some, if◌then◌else◌}
use Rattle.std.specs.Bool.{MatchBool}
use mathlib.Core.Option.{some}
use lib.ListN.{get_elem?}
use Rattle.atomic_table.specs.Table.{State, Me, Step}
use Rattle.md_machine.specs.declared.Event.{Event}
use Rattle.md_machine.specs.States.{State as ServerState}
use Rattle.md_machine.specs.Steps.{StepResult}
use Rattle.md_turn.specs.declared.journal.JournalEntry.{JournalEntry}
use Rattle.md_turn.specs.declared.rule.View.{View}
use Rattle.md_turn.specs.Journal.{after, Legal, IsPrefix, Has, total_of, times, once_below, Apart, longer, shorter, merge}

abbrev pub whole_share : ℕ
whole_share = 18446744073709551615

-- share, journal seen, another prefix of the journal, own entries, refused acts; whether it waits, its ticket, whether it holds the turn
abbrev pub view : ℕ → List JournalEntry → List JournalEntry → List JournalEntry → ℕ → Bool → ℕ → Bool → View
view share seen compared own refused waits ticket holds =
    record { share = share; seen = seen; compared = compared; own = own; refused = refused; waits = waits; ticket = ticket; holds = holds }

-- a view at rest, with no ticket
abbrev pub resting : ℕ → List JournalEntry → List JournalEntry → List JournalEntry → ℕ → View
resting share seen compared own refused = view share seen compared own refused false 0 false

abbrev pub spent_view : View
spent_view = resting 0 [] [] [] 0

abbrev pub made : View → ℕ
made v = length v.own + v.refused

abbrev pub waiting : View → ℕ
waiting v = if v.waits then 1 else 0

abbrev pub acts : View → ℕ
acts v = made v + waiting v

-- a share cut off: what the old view keeps, and the new view
abbrev pub cut : ℕ → View → View
cut share v = view (v.share - share) v.seen v.compared v.own v.refused v.waits v.ticket v.holds

abbrev pub cut_off : ℕ → View → View
cut_off share v = resting share v.seen [] [] 0

-- two views at rest as one: it keeps the shorter journal beside the longer, to be compared
abbrev pub joined : View → View → View
joined v w = resting (v.share + w.share) (longer v.seen w.seen) (shorter v.seen w.seen) (merge v.own w.own) (v.refused + w.refused)

-- what holds of each view, at these words and this journal
pub record Fine (ticket serving : ℕ) (journal : List JournalEntry) (v : View) : Type 0 where
  pub room : acts v ≤ v.share
  pub queue : v.waits ≡ true → (serving ≤ v.ticket) × (v.ticket < ticket)
  pub turn : v.holds ≡ true → (v.waits ≡ true) × (v.ticket ≡ serving) × (v.seen ≡ journal)
  pub seen : IsPrefix v.seen journal
  pub compared : IsPrefix v.compared journal
  pub own : All (Has v.seen) v.own

-- no two views wait with one ticket
abbrev pub Queued : List View → Type 0
Queued views = (i j : ℕ) (v w : View) → get_elem? views i ≡ some v → get_elem? views j ≡ some w → v.waits ≡ true → w.waits ≡ true → v.ticket ≡ w.ticket → i ≡ j

-- the sums over all views
pub record Sums (ticket serving : ℕ) (journal : List JournalEntry) (views : List View) : Type 0 where
  pub shares : total_of (λ (v : View). v.share) views ≡ whole_share
  pub drawn : total_of acts views ≡ ticket
  pub served : total_of made views ≡ serving
  pub counted : length journal + total_of (λ (v : View). v.refused) views ≡ serving
  pub owned : (i : ℕ) → total_of (λ (v : View). times i v.own) views ≡ once_below i (length journal)

module _ {H : Type 0} where
  -- a ticket is drawn
  abbrev pub Draws : Step (Option H) → Me (Option H) View → ℕ → Me (Option H) View → Type 0
  Draws st v found w = w ≡ (view v.0.share v.0.seen v.0.compared v.0.own v.0.refused true found false, v.1)

  -- the turn is passed on with no entry made
  abbrev pub Refuses : Step (Option H) → Me (Option H) View → ℕ → Me (Option H) View → Type 0
  Refuses st v found w = w ≡ (resting v.0.share v.0.seen v.0.compared v.0.own (v.0.refused + 1), [])

  -- nothing changes, and both prefixes of the journal are known to be prefixes of one journal
  abbrev pub Compares : Step (Option H) → Me (Option H) View → ℕ → Me (Option H) View → Type 0
  Compares st v found w = (w ≡ v) × (v.0.share ≤ whole_share) × (length v.0.compared ≤ length v.0.seen → IsPrefix v.0.compared v.0.seen)

  -- the turn is passed on with one entry more
  abbrev pub Leaves : (H → List JournalEntry) → Step (Option H) → Me (Option H) View → ℕ → Me (Option H) View → Type 0
  Leaves journal_of st v found w = (h : H) (e : JournalEntry) → v.1 ≡ (0, Some h) ∷ [] → journal_of h ≡ v.0.seen ++ e ∷ [] → w ≡ (resting v.0.share (v.0.seen ++ e ∷ []) v.0.compared (v.0.own ++ e ∷ []) v.0.refused, [])

module _ (machine : ServerState → Event → StepResult) {H : Type 0} (journal_of : H → List JournalEntry) (state_of : H → ServerState) (opening : ServerState) where
  -- the slot's value has this journal, and the state after it
  abbrev pub Follows : List JournalEntry → H → Type 0
  Follows journal h = (journal_of h ≡ journal) × (state_of h ≡ after machine opening journal)

  pub record Kept (s : State (Option H) View) : Type 0 where
    pub ticket : ℕ
    pub serving : ℕ
    pub journal : List JournalEntry
    pub words_are : s.words ≡ ticket ∷ serving ∷ []
    pub legal : Legal machine 0 opening journal
    pub sums : Sums ticket serving journal s.views
    pub each : (id : ℕ) (v : View) → get_elem? s.views id ≡ some v → Fine ticket serving journal v
    pub queued : Queued s.views
    pub idle : ((id : ℕ) (v : View) → get_elem? s.views id ≡ some v → v.holds ≡ false) → (h : H) × (s.homes ≡ some (Some h) ∷ []) × Follows journal h

  -- the turn has come: the seat has the slot and has seen its journal
  pub record Takes (v w : Me (Option H) View) : Type 0 where
    pub value : H
    pub others : List JournalEntry
    pub after_is : w ≡ (view v.0.share (v.0.seen ++ others) v.0.compared v.0.own v.0.refused true v.0.ticket true, (0, Some value) ∷ v.1)
    pub follows : Follows (v.0.seen ++ others) value
    pub legal : Legal machine 0 opening (v.0.seen ++ others)
    pub apart : Apart v.0.own others

  abbrev pub Looked : Bool → Me (Option H) View → Me (Option H) View → Type 0
  Looked mine v w = MatchBool mine (Takes v w) (w ≡ v)

  abbrev pub Looks : Step (Option H) → Me (Option H) View → ℕ → Me (Option H) View → Type 0
  Looks st v found w = Looked (found == v.0.ticket) v w

  -- what a seat with the whole share knows as the table is closed
  pub record Closes (v : View) (value : Option H) : Type 0 where
    pub journaled : H
    pub journal : List JournalEntry
    pub value_is : value ≡ Some journaled
    pub follows : Follows journal journaled
    pub legal : Legal machine 0 opening journal
    pub seen : IsPrefix v.seen journal
    pub own : All (Has v.seen) v.own
    pub owned : (i : ℕ) → times i v.own ≡ once_below i (length journal)
