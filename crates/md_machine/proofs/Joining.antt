-- A run over two lists of events, one after the other.
use Rattle.std.proofs.Common.{◌≡◌, suc, List, [], ◌∷◌, ◌++◌, length, refl, ap}
use Rattle.std.specs.List.{zip}
use Rattle.md_machine.specs.declared.Event.{Event}
use Rattle.md_machine.specs.declared.Reply.{Reply}
use Rattle.md_machine.specs.States.{State}
use Rattle.md_machine.specs.Steps.{step}
use Rattle.md_machine.specs.Runs.{Entry, run_from}

pub last-join : (s : State) (xs ys : List Event) → (run_from s (xs ++ ys)).last ≡ (run_from (run_from s xs).last ys).last
last-join s [] ys = refl
last-join s (x ∷ xs) ys = last-join (step s x).state xs ys

pub replies-join : (s : State) (xs ys : List Event) → (run_from s (xs ++ ys)).replies ≡ (run_from s xs).replies ++ (run_from (run_from s xs).last ys).replies
replies-join s [] ys = refl
replies-join s (x ∷ xs) ys = ap (λ (rest : List Reply). (step s x).reply ∷ rest) (replies-join (step s x).state xs ys)

-- the events beside their replies
pub entries-join : (s : State) (xs ys : List Event) → zip (xs ++ ys) (run_from s (xs ++ ys)).replies ≡ zip xs (run_from s xs).replies ++ zip ys (run_from (run_from s xs).last ys).replies
entries-join s [] ys = refl
entries-join s (x ∷ xs) ys = ap (λ (rest : List Entry). (x, (step s x).reply) ∷ rest) (entries-join (step s x).state xs ys)

-- each event has one entry
pub length-entries : (s : State) (xs : List Event) → length (zip xs (run_from s xs).replies) ≡ length xs
length-entries s [] = refl
length-entries s (x ∷ xs) = ap suc (length-entries (step s x).state xs)
