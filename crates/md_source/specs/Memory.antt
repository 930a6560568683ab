-- What contracts see of the outside in memory.
use Rattle.std.specs.Prelude.{◌≡◌, ◌↔◌, ℕ, ◌+◌, ◌-◌, ◌^◌, ◌≤◌, min, ℤ, List, Contains, Result, IsErr, OnErr, OnOk}

-- the numbers of the calls that fail, and how many calls and failures there were; both counts stop at 2 ^ 64 - 1
pub record Plan : Type 0 where
  pub fails : List ℕ
  pub calls : ℕ
  pub failures : ℕ

-- no call yet
abbrev pub new_plan : List ℕ → Plan
new_plan fails = record { fails = fails; calls = 0; failures = 0 }

-- one call more, which fails exactly where its number is listed, and is then counted as a failure
pub record FollowsPlan {T E : Type 0} (old new : Plan) (result : Result T E) : Type 0 where
  pub listed : IsErr result ↔ Contains old.fails old.calls
  pub fails : new.fails ≡ old.fails
  pub calls : new.calls ≡ min (old.calls + 1) (2 ^ 64 - 1)
  pub later : old.failures ≤ new.failures
  pub failure : OnErr result (new.failures ≡ min (old.failures + 1) (2 ^ 64 - 1))
  pub kept : OnOk result (new.failures ≡ old.failures)

-- one call more
pub record IsNextPlan (old new : Plan) : Type 0 where
  pub fails : new.fails ≡ old.fails
  pub calls : new.calls ≡ min (old.calls + 1) (2 ^ 64 - 1)

-- a source: the bytes that are left, and the most that one call gives
pub record Feed : Type 0 where
  pub left : List ℕ
  pub piece : ℕ

-- a sink: the bytes that were taken, the room, and the most that one put takes
pub record Drain : Type 0 where
  pub taken : List ℕ
  pub spare : ℕ
  pub piece : ℕ

-- a source with a plan of failures
pub record PlannedFeed : Type 0 where
  pub feed : Feed
  pub plan : Plan

-- a sink with a plan of failures
pub record PlannedDrain : Type 0 where
  pub drain : Drain
  pub plan : Plan

-- a clock with a plan of failures
pub record PlannedMoment : Type 0 where
  pub moment : ℤ
  pub plan : Plan
