-- The open tickets, in the order in which they were drawn.
use Rattle.std.specs.Prelude.{ℕ, ◌<◌, ◌≤◌, List, [], ◌∷◌, map}
use Rattle.std.specs.List.{AllByRecursion}
use Rattle.md_value.specs.Values.{PathBytes}
use Rattle.md_world.specs.Tickets.{Ticket}

-- the ticket of this number for this path
abbrev pub with_path : ℕ → PathBytes → Ticket
with_path number path = record { number = number; path = path }

-- the pairs of a number and a path, as tickets
abbrev pub tickets_of : List (ℕ × PathBytes) → List Ticket
tickets_of pairs = map (λ pair. with_path pair.0 pair.1) pairs

-- tickets with ascending numbers, none of them greater than the number of tickets drawn
abbrev pub AreDrawn : ℕ → List Ticket → Type 0
AreDrawn drawn [] = Unit {0}
AreDrawn drawn (t ∷ tickets) = (t.number ≤ drawn) × AllByRecursion (λ (later : Ticket). t.number < later.number) tickets × AreDrawn drawn tickets
