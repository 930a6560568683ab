-- The rows of one path, and what the versions see of them.
use Rattle.std.specs.Prelude.{◌≡◌, ℕ, ◌≤◌, Bool, true, List, [], ◌∷◌, ◌++◌, ◌&&◌, ◌||◌, Option, None, Some, find, filter, map, nat_lt, nat_le}
use Rattle.std.specs.Option.{option_map}
use Rattle.std.specs.List.{list_any, AllByRecursion}
use Rattle.md_value.specs.Values.{PathBytes}
use Rattle.md_world.specs.declared.Row.{Row}
use Rattle.md_store.specs.declared.chain.KeptRow.{KeptRow}

-- whether a version stands before the one that ends a row, if one does
abbrev pub is_before_end : ℕ → Option ℕ → Bool
is_before_end version None = true
is_before_end version (Some end) = nat_lt version end

-- whether a version sees a row
abbrev pub sees : ℕ → KeptRow → Bool
sees version kept = nat_le kept.from version && is_before_end version kept.until

-- the row that a version sees of one path
abbrev pub seen_in : List KeptRow → ℕ → Option Row
seen_in chain version = option_map (λ kept. kept.row) (find (sees version) chain)

-- the version that ends a row: its own, or this one where it is open
abbrev pub end_or : ℕ → Option ℕ → Option ℕ
end_or version None = Some version
end_or version (Some end) = Some end

-- a row, ended at this version if it was open
abbrev pub end_at : ℕ → KeptRow → KeptRow
end_at version kept = record kept { until = end_or version kept.until }

-- a row that this version makes
abbrev pub new_row : ℕ → Row → KeptRow
new_row version row = record { row = row; from = version; until = None }

-- the rows after a version that gives the path this row, or none
abbrev pub with_row_at : List KeptRow → ℕ → Option Row → List KeptRow
with_row_at chain version None = map (end_at version) chain
with_row_at chain version (Some row) = map (end_at version) chain ++ new_row version row ∷ []

-- whether the newest version sees a row, or a pinned one does
abbrev pub is_seen : ℕ → List ℕ → KeptRow → Bool
is_seen newest pins kept = sees newest kept || list_any (λ version. sees version kept) pins

-- the rows that one of these versions sees
abbrev pub seen_of : ℕ → List ℕ → List KeptRow → List KeptRow
seen_of newest pins chain = filter (is_seen newest pins) chain

-- a row ends before a version
abbrev pub EndsBy : ℕ → Option ℕ → Type 0
EndsBy version None = ⊥
EndsBy version (Some end) = end ≤ version

-- a row is made no later than another one, and ends before that begins
pub record Precedes (kept later : KeptRow) : Type 0 where
  pub from : kept.from ≤ later.from
  pub until : EndsBy later.from kept.until

-- each row precedes the later ones
abbrev pub IsOrdered : List KeptRow → Type 0
IsOrdered [] = Unit {0}
IsOrdered (kept ∷ chain) = AllByRecursion (Precedes kept) chain × IsOrdered chain

-- an open row, or one that ended at this version at the latest
abbrev pub IsPastBy : ℕ → Option ℕ → Type 0
IsPastBy newest None = Unit {0}
IsPastBy newest (Some end) = end ≤ newest

-- a row of this path, of versions that were made
pub record IsKeptRow (own : PathBytes) (newest : ℕ) (kept : KeptRow) : Type 0 where
  pub path : kept.row.path ≡ own
  pub from : kept.from ≤ newest
  pub until : IsPastBy newest kept.until

-- the rows of a path, in order of their versions
pub record IsChain (path : PathBytes) (newest : ℕ) (chain : List KeptRow) : Type 0 where
  pub rows : AllByRecursion (IsKeptRow path newest) chain
  pub ordered : IsOrdered chain

-- the row, if there is one, has the path
abbrev pub HasPath : PathBytes → Option Row → Type 0
HasPath path None = Unit {0}
HasPath path (Some row) = row.path ≡ path

-- how many rows this is
abbrev pub one_if : Option Row → ℕ
one_if None = 0
one_if (Some row) = 1
