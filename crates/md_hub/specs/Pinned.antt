-- The bases of the live queries, which are pinned in the store.
use Rattle.std.specs.Prelude.{◌≡◌, ℕ, ◌+◌, ◌==◌, ◌≤◌, List, [], ◌∷◌, if◌then◌else◌}
use Rattle.std.specs.List.{AllByRecursion}
use Rattle.md_machine.specs.States.{Query}
use Rattle.md_store.specs.Pins.{pins_of}
use Rattle.md_store.specs.Stores.{Stored}

-- how many queries speak of a version
abbrev pub bases_of : List Query → ℕ → ℕ
bases_of [] version = 0
bases_of (q ∷ queries) version = (if q.base == version then 1 else 0) + bases_of queries version

-- each version is pinned as often as a query speaks of it
abbrev pub ArePinned : List ℕ → List Query → Type 0
ArePinned pins queries = (version : ℕ) → pins_of pins version ≡ bases_of queries version

-- no query speaks of a version that is not made yet
abbrev pub AreMade : ℕ → List Query → Type 0
AreMade version queries = AllByRecursion (λ (q : Query). q.base ≤ version) queries

-- a store that is as it was but for its pins
abbrev pub WithPins : Stored → Stored → Type 0
WithPins old new = new ≡ record old { pins = new.pins }
