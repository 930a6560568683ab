-- The server as contracts see it.
use Rattle.std.specs.Prelude.{List}
use Rattle.md_machine.specs.States.{Query, State}
use Rattle.md_store.specs.Places.{Place}
use Rattle.md_store.specs.Stores.{Stored}
use Rattle.md_hub.specs.States.{state_of}

-- the machine's state, and each stamped path with the rows that are kept of it
pub record Served : Type 0 where
  pub state : State
  pub places : List Place

-- a store of versions and the live queries over it, as a server
abbrev pub served_of : Stored → List Query → Served
served_of s queries = record { state = state_of s queries; places = s.places }
