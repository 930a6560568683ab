-- What a sink has taken after bytes were put to it, and its count of failures.
use Rattle.std.specs.Prelude.{◌≡◌, ℕ, ◌<◌, ◌≤◌, List, length, take, Option}
use Rattle.std.specs.Io.KnownBytes.{Appends}
use Rattle.md_source.specs.Causes.{Rose}

-- the sink took nothing, and no call failed
pub record PutsNothing (old new : Option (List ℕ)) (before now : ℕ) : Type 0 where
  pub taken : new ≡ old
  pub kept : now ≡ before

-- the sink took all the bytes, and no call failed
pub record PutsWhole (old new : Option (List ℕ)) (before now : ℕ) (bytes : List ℕ) : Type 0 where
  pub taken : Appends old new bytes
  pub kept : now ≡ before

-- the sink took the first count of the bytes, not all, and a call failed
pub record PutsPart (old new : Option (List ℕ)) (before now : ℕ) (bytes : List ℕ) : Type 0 where
  pub count : ℕ
  pub less : count < length bytes
  pub taken : Appends old new (take count bytes)
  pub later : before ≤ now
  pub failed : Rose before now
