-- Journals of the machine, and the entries that one pass made.
use Rattle.std.specs.Prelude.{◌≡◌, ℕ, ◌+◌, ◌≤◌, ◌==◌, List, [], ◌∷◌, ◌++◌, length, map, All, Some, slice_get, if◌then◌else◌, nat_lt}
use mathlib.Core.Option.{some}
use lib.ListN.{get_elem?}
use Rattle.md_machine.specs.declared.Event.{Event}
use Rattle.md_machine.specs.declared.Reply.{Reply}
use Rattle.md_machine.specs.States.{State as ServerState}
use Rattle.md_machine.specs.Steps.{StepResult}
use Rattle.md_machine.specs.Runs.{Run, run_from}
use Rattle.md_turn.specs.declared.journal.JournalEntry.{JournalEntry}

abbrev pub entry : ℕ → Event → Reply → JournalEntry
entry place event reply = record { place = place; event = event; reply = reply }

-- the machine's run over a journal's events
abbrev pub run_of : ServerState → List JournalEntry → Run
run_of opening js = run_from opening (map (λ (e : JournalEntry). e.event) js)

-- a legal journal: the places are 1, 2, 3 and so on, and the replies are the machine's over the events
pub record IsJournal (opening : ServerState) (js : List JournalEntry) : Type 0 where
  pub places : (i : ℕ) (e : JournalEntry) → slice_get js i ≡ Some e → e.place ≡ i + 1
  pub replies : map (λ (e : JournalEntry). e.reply) js ≡ (run_of opening js).replies

-- the same by entries, for any machine; its steps stay closed in proofs
module _ (machine : ServerState → Event → StepResult) where
  -- the state after a journal
  abbrev pub after : ServerState → List JournalEntry → ServerState
  after s [] = s
  after s (e ∷ es) = after (machine s e.event).state es

  -- behind n entries: the places count on by one, and each reply is the machine's
  abbrev pub Legal : ℕ → ServerState → List JournalEntry → Type 0
  Legal n s [] = Unit {0}
  Legal n s (e ∷ es) = (e.place ≡ n + 1) × (e.reply ≡ (machine s e.event).reply) × Legal (n + 1) (machine s e.event).state es

-- the second list begins with the first
abbrev pub IsPrefix : {A : Type 0} → List A → List A → Type 0
IsPrefix {A} xs ys = (rest : List A) × (ys ≡ xs ++ rest)

-- the entry stands in the journal at its place
abbrev pub Has : List JournalEntry → JournalEntry → Type 0
Has js e = (i : ℕ) × (e.place ≡ i + 1) × (get_elem? js i ≡ some e)

-- the sum of f over a list
abbrev pub total_of : {V : Type 0} → (V → ℕ) → List V → ℕ
total_of f [] = 0
total_of f (x ∷ xs) = f x + total_of f xs

-- how many of the entries have the place i + 1
abbrev pub times : ℕ → List JournalEntry → ℕ
times i es = total_of (λ e. if e.place == i + 1 then 1 else 0) es

abbrev pub once_below : ℕ → ℕ → ℕ
once_below i n = if nat_lt i n then 1 else 0

-- none of these entries has the place of one of the others
abbrev pub Apart : List JournalEntry → List JournalEntry → Type 0
Apart own others = All (λ e. (i : ℕ) → e.place ≡ i + 1 → times i own ≡ 0) others

abbrev pub longer : List JournalEntry → List JournalEntry → List JournalEntry
longer xs ys = if nat_lt (length xs) (length ys) then ys else xs

abbrev pub shorter : List JournalEntry → List JournalEntry → List JournalEntry
shorter xs ys = if nat_lt (length xs) (length ys) then xs else ys

-- entries by place
abbrev pub put : JournalEntry → List JournalEntry → List JournalEntry
put e [] = e ∷ []
put e (x ∷ xs) = if nat_lt e.place x.place then e ∷ x ∷ xs else x ∷ put e xs

abbrev pub merge : List JournalEntry → List JournalEntry → List JournalEntry
merge [] ys = ys
merge (x ∷ xs) ys = put x (merge xs ys)

-- the entries stand by place
abbrev pub Rises : List JournalEntry → Type 0
Rises [] = Unit {0}
Rises (x ∷ xs) = All (λ (y : JournalEntry). x.place ≤ y.place) xs × Rises xs
