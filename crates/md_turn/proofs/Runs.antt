-- A journal that is legal by entries is the machine's run over its events.
use Rattle.std.proofs.Common.{◌≡◌, ℕ, zero, suc, ◌+◌, List, [], ◌∷◌, map, refl, ap, arith, Some}
use Rattle.std.specs.Prelude.{slice_get}
use Rattle.md_machine.specs.States.{State as ServerState}
use Rattle.md_machine.specs.Steps.{step}
use Rattle.md_turn.specs.declared.journal.JournalEntry.{JournalEntry}
use Rattle.md_turn.specs.Journal.{after, Legal, IsJournal, run_of}

places : (n : ℕ) (s : ServerState) (js : List JournalEntry) → Legal step n s js → (i : ℕ) (e : JournalEntry) → slice_get js i ≡ Some e → e.place ≡ n + i + 1
places n s [] l i e at = absurd (grind arith)
places n s (x ∷ xs) l zero e at = (let same : x ≡ e = grind arith in let place : x.place ≡ n + 1 = l.0 in omega (arith, ap (λ (y : JournalEntry). y.place) same))
places n s (x ∷ xs) l (suc i) e at = (let next = places (n + 1) (step s x.event).state xs l.2 i e at in omega arith)

replies : (n : ℕ) (s : ServerState) (js : List JournalEntry) → Legal step n s js → map (λ (e : JournalEntry). e.reply) js ≡ (run_of s js).replies
replies n s [] l = refl
replies n s (x ∷ xs) l = λ i. l.1 i ∷ replies (n + 1) (step s x.event).state xs l.2 i

pub last : (s : ServerState) (js : List JournalEntry) → after step s js ≡ (run_of s js).last
last s [] = refl
last s (x ∷ xs) = last (step s x.event).state xs

pub legal_journal : (s : ServerState) (js : List JournalEntry) → Legal step 0 s js → IsJournal s js
legal_journal s js l = record { places = λ i e at. (let p = places 0 s js l i e at in omega arith); replies = replies 0 s js l }
