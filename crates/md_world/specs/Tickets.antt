-- Tickets and stamps, and the edits of their lists.
use Rattle.std.specs.Prelude.{ℕ, ◌==◌, not, List, [], ◌∷◌, Option, filter, find, if◌then◌else◌}
use Rattle.md_value.specs.Values.{PathBytes, is_same}

-- an open ticket and the path that it was drawn for
pub record Ticket : Type 0 where
  pub number : ℕ
  pub path : PathBytes

-- a path that was ever committed, and the greatest ticket that was committed for it
pub record Stamp : Type 0 where
  pub path : PathBytes
  pub ticket : ℕ

-- the open ticket of this number
abbrev pub ticket_at : List Ticket → ℕ → Option Ticket
ticket_at tickets number = find (λ t. t.number == number) tickets

-- the open tickets without this one
abbrev pub without_ticket : List Ticket → ℕ → List Ticket
without_ticket tickets number = filter (λ t. not (t.number == number)) tickets

-- the stamp of a path, if it was ever committed
abbrev pub stamp_at : List Stamp → PathBytes → Option Stamp
stamp_at stamps path = find (λ s. is_same s.path path) stamps

-- the stamps with this one: in place of its path's older one, or at the end where there is none
abbrev pub with_stamp : List Stamp → Stamp → List Stamp
with_stamp [] stamp = stamp ∷ []
with_stamp (s ∷ stamps) stamp = if is_same s.path stamp.path then stamp ∷ stamps else s ∷ with_stamp stamps stamp
