-- A pass and a turn lock, as clauses see them.
use Rattle.std.specs.Prelude.{◌≡◌, ℕ, ◌+◌, ◌<◌, ◌≤◌, List, [], ◌∷◌, length, All, false}
use mathlib.Core.Option.{some}
use lib.ListN.{get_elem?}
use Rattle.atomic_table.specs.Seated.{TableId}
use Rattle.md_turn.specs.declared.journal.JournalEntry.{JournalEntry}
use Rattle.md_turn.specs.declared.rule.View.{View}
use Rattle.md_machine.specs.States.{State as ServerState}
use Rattle.md_turn.specs.Journal.{IsJournal, run_of, IsPrefix, Has, total_of, times, once_below, longer, merge, Rises}
use Rattle.md_turn.specs.Turns.{spent_view, made}

-- which lock it is, and the state that its core was in when it was made
pub record Lock : Type 0 where
  pub id : TableId
  pub opening : ServerState

-- the lock that a pass is of, its share, the journal that it has seen, its own entries and how many of its acts were refused
pub record Known : Type 0 where
  pub id : TableId
  pub share : ℕ
  pub seen : List JournalEntry
  pub own : List JournalEntry
  pub refused : ℕ

abbrev pub made_by : Known → ℕ
made_by p = length p.own + p.refused

abbrev pub view_of : List View → View
view_of [] = spent_view
view_of (v ∷ vs) = v

abbrev pub known_of : TableId → View → Known
known_of id v = record { id = id; share = v.share; seen = v.seen; own = v.own; refused = v.refused }

-- what a pass always has: one view at rest, within its share
pub record IsPass (views : List View) (share acts : ℕ) : Type 0 where
  pub one : views ≡ view_of views ∷ []
  pub waits : (view_of views).waits ≡ false
  pub holds : (view_of views).holds ≡ false
  pub share_is : share ≡ (view_of views).share
  pub acts_are : acts ≡ made (view_of views)
  pub room : acts ≤ share
  pub own : All (Has (view_of views).seen) (view_of views).own
  pub rises : Rises (view_of views).own

-- two passes as one: it has seen the longer journal, of which both are prefixes
pub record Joined (a b c : Known) : Type 0 where
  pub share : c.share ≡ a.share + b.share
  pub seen : c.seen ≡ longer a.seen b.seen
  pub own : c.own ≡ merge a.own b.own
  pub refused : c.refused ≡ a.refused + b.refused
  pub prefix : IsPrefix a.seen c.seen
  pub other_prefix : IsPrefix b.seen c.seen

-- the entry number i is an own entry of just one of the passes
abbrev pub HasOneOwner : List Known → ℕ → Type 0
HasOneOwner passes i = (k : ℕ) × (p : Known) × (get_elem? passes k ≡ some p) × (times i p.own ≡ 1) × ((j : ℕ) (q : Known) → get_elem? passes j ≡ some q → ¬ (j ≡ k) → times i q.own ≡ 0)

-- the journal at the end: each listed pass has seen a prefix of it, and each entry is an own entry of just one of them, which have no others
pub record Ended (opening : ServerState) (passes : List Known) (state : ServerState) (journal : List JournalEntry) : Type 0 where
  pub legal : IsJournal opening journal
  pub state_is : state ≡ (run_of opening journal).last
  pub seen : All (λ (p : Known). IsPrefix p.seen journal) passes
  pub own : All (λ (p : Known). All (Has journal) p.own) passes
  pub rises : All (λ (p : Known). Rises p.own) passes
  pub owned : (i : ℕ) → total_of (λ (p : Known). times i p.own) passes ≡ once_below i (length journal)
  pub one_owner : (i : ℕ) → i < length journal → HasOneOwner passes i

-- what a pass that took in these passes knows
pub record Gathered (taken : List Known) (p : Known) : Type 0 where
  pub shares : p.share ≡ total_of (λ (q : Known). q.share) taken
  pub seen : All (λ (q : Known). IsPrefix q.seen p.seen) taken
  pub own : All (λ (q : Known). All (Has p.seen) q.own) taken
  pub rises : All (λ (q : Known). Rises q.own) taken
  pub owned : (i : ℕ) → times i p.own ≡ total_of (λ (q : Known). times i q.own) taken
