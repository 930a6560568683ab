-- Stamped paths in the order of their first stamping, each with its rows, and the tables that these make.
use Rattle.std.specs.Prelude.{◌≡◌, ℕ, ◌+◌, ◌<◌, length, slice_get, slice_set, get_or, vec_len, vec_capacity, List, [], ◌∷◌, Option, None, Some, map, zero, suc, if◌then◌else◌}
use Rattle.md_value.specs.Values.{PathBytes, is_same}
use Rattle.md_world.specs.declared.Row.{Row}
use Rattle.md_world.specs.Holding.{with_rows}
use Rattle.md_world.specs.Tickets.{Stamp}
use Rattle.md_store.specs.declared.chain.KeptRow.{KeptRow}
use Rattle.md_store.specs.declared.slot.Slot.{Slot}
use Rattle.md_store.specs.Chains.{seen_in, with_row_at, seen_of, IsChain}

-- a stamped path, the greatest ticket committed for it, and its kept rows
pub record Place : Type 0 where
  pub path : PathBytes
  pub stamp : ℕ
  pub rows : List KeptRow

-- how paths and their slots are seen
abbrev pub places_of : List PathBytes → List Slot → List Place
places_of [] slots = []
places_of (path ∷ paths) [] = []
places_of (path ∷ paths) (slot ∷ slots) =
    record { path = path; stamp = slot.stamp; rows = slot.chain.items } ∷ places_of paths slots

-- the stamps, in the order of first stamping
abbrev pub stamps_of : List Place → List Stamp
stamps_of places = map (λ place. record { path = place.path; ticket = place.stamp }) places

-- the next place
abbrev pub next_place : Option ℕ → Option ℕ
next_place None = None
next_place (Some place) = Some (suc place)

-- the place of a path
abbrev pub place_in : List Place → PathBytes → Option ℕ
place_in [] path = None
place_in (place ∷ places) path = if is_same place.path path then Some 0 else next_place (place_in places path)

-- a row, if there is one, before other rows
abbrev pub row_before : Option Row → List Row → List Row
row_before None rows = rows
row_before (Some row) rows = row ∷ rows

-- the rows that a version sees, by place
abbrev pub rows_seen : List Place → ℕ → List Row
rows_seen [] version = []
rows_seen (place ∷ places) version = row_before (seen_in place.rows version) (rows_seen places version)

-- the table of a version: the rows that it sees, in path order
abbrev pub table_at : List Place → ℕ → List Row
table_at places version = with_rows [] (rows_seen places version)

-- how many rows are kept
abbrev pub kept_of : List Place → ℕ
kept_of [] = 0
kept_of (place ∷ places) = length place.rows + kept_of places

-- the places after a commit: the path is stamped with the ticket, and gets the row from this version on, or none; a new path goes last
abbrev pub with_commit : List Place → PathBytes → ℕ → ℕ → Option Row → List Place
with_commit [] path ticket version row = record { path = path; stamp = ticket; rows = with_row_at [] version row } ∷ []
with_commit (place ∷ places) path ticket version row =
    if is_same place.path path
    then record { path = path; stamp = ticket; rows = with_row_at place.rows version row } ∷ places
    else place ∷ with_commit places path ticket version row

-- a place with only the rows that the newest version or a pinned one sees
abbrev pub place_seen : ℕ → List ℕ → Place → Place
place_seen newest pins place = record place { rows = seen_of newest pins place.rows }

-- the places with only such rows
abbrev pub places_seen : ℕ → List ℕ → List Place → List Place
places_seen newest pins places = map (place_seen newest pins) places

-- distinct paths, each with its own rows in order
abbrev pub ArePlaces : ℕ → List Place → Type 0
ArePlaces newest [] = Unit {0}
ArePlaces newest (place ∷ places) =
    IsChain place.path newest place.rows × (place_in places place.path ≡ None) × ArePlaces newest places

-- a place of a path, or the next one where it has none
abbrev pub place_or : ℕ → Option ℕ → ℕ
place_or next None = next
place_or next (Some place) = place

-- the place that a path has, or will have
abbrev pub place_for : List Place → PathBytes → ℕ
place_for places path = place_or (length places) (place_in places path)

-- one slot is changed by a commit
pub record IsCommittedAt (old new : List Slot) (place ticket version : ℕ) (row : Option Row) : Type 0 where
  pub before : Slot
  pub after : Slot
  pub there : slice_get old place ≡ Some before
  pub set : new ≡ slice_set old place after
  pub stamp : after.stamp ≡ ticket
  pub rows : after.chain.items ≡ with_row_at before.chain.items version row

-- at this place one more row takes no memory
abbrev pub HasRowRoom : List Slot → ℕ → Type 0
HasRowRoom slots place = (slot : Slot) → slice_get slots place ≡ Some slot → vec_len slot.chain < vec_capacity slot.chain

-- the path of a place
abbrev pub path_at : List Place → ℕ → PathBytes
path_at [] i = []
path_at (place ∷ places) zero = place.path
path_at (place ∷ places) (suc i) = path_at places i

-- a slot without its layout: its stamp and its rows
abbrev pub bare : Slot → ℕ × List KeptRow
bare slot = (slot.stamp, slot.chain.items)

-- a slot with only the rows that the newest version or a pinned one sees
abbrev pub bare_seen : ℕ → List ℕ → ℕ × List KeptRow → ℕ × List KeptRow
bare_seen newest pins slot = (slot.0, seen_of newest pins slot.1)

-- how many rows are in slots
abbrev pub rows_in : List (ℕ × List KeptRow) → ℕ
rows_in [] = 0
rows_in (slot ∷ slots) = length slot.1 + rows_in slots

-- at one place the rows are given up that no version sees that can be read, and so many they are
pub record IsGivenUpAt (old new : List (ℕ × List KeptRow)) (newest : ℕ) (pins : List ℕ) (place count : ℕ) : Type 0 where
  pub before : ℕ × List KeptRow
  pub read : before ≡ get_or old place before
  pub set : new ≡ slice_set old place (bare_seen newest pins before)
  pub counted : count + length (seen_of newest pins before.1) ≡ length before.1
