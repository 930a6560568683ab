-- Tables of rows, and what a commit makes of one.
use Rattle.std.specs.Prelude.{◌≡◌, ◌≢◌, ℕ, Bool, true, false, not, List, [], ◌∷◌, ◌++◌, ◌&&◌, Option, None, Some, is_some, filter, find, slice_get}
use Rattle.std.specs.Option.{option_map_or}
use Rattle.std.specs.List.{AllByRecursion}
use Rattle.md_value.specs.Values.{PathBytes, is_same, is_before}
use Rattle.md_value.specs.Attrs.{same_attrs, without_name, text_content}
use Rattle.md_world.specs.declared.Row.{Row}
use Rattle.md_world.specs.declared.Change.{Change}
use Rattle.md_world.specs.declared.Change.TheVariants.{Put, Remove}

-- each row stands after the path
abbrev pub StandAfter : PathBytes → List Row → Type 0
StandAfter path [] = Unit {0}
StandAfter path (row ∷ rows) = (is_before path row.path ≡ true) × StandAfter path rows

-- the rows have distinct paths, ascending by bytes
abbrev pub IsTable : List Row → Type 0
IsTable [] = Unit {0}
IsTable (row ∷ rows) = StandAfter row.path rows × IsTable rows

-- no row has the path of the root, which is empty
abbrev pub HasNoRoot : List Row → Type 0
HasNoRoot rows = AllByRecursion (λ (row : Row). row.path ≢ []) rows

-- the rows have distinct paths other than the root, ascending by bytes
pub record IsRowTable (rows : List Row) : Type 0 where
  pub ordered : IsTable rows
  pub no_root : HasNoRoot rows

-- the row of a path, if there is one
abbrev pub at : List Row → PathBytes → Option Row
at rows path = find (λ row. is_same row.path path) rows

-- whether there is a row of a path
abbrev pub has_path : List Row → PathBytes → Bool
has_path rows path = is_some (at rows path)

-- whether the row at the place has the path
abbrev pub has_at : List Row → ℕ → PathBytes → Bool
has_at rows place path = option_map_or (λ row. is_same row.path path) (slice_get rows place) false

-- the rows before a path, and those after it
abbrev pub rows_before : PathBytes → List Row → List Row
rows_before path rows = filter (λ row. is_before row.path path) rows

abbrev pub rows_after : PathBytes → List Row → List Row
rows_after path rows = filter (λ row. is_before path row.path) rows

-- the rows with this row as the only one of its path
abbrev pub with_row : List Row → Row → List Row
with_row rows row = rows_before row.path rows ++ row ∷ rows_after row.path rows

-- the rows without a row of the path
abbrev pub without_path : List Row → PathBytes → List Row
without_path rows path = filter (λ row. not (is_same row.path path)) rows

-- the row that a change gives a path
abbrev pub row_of : PathBytes → Change → Option Row
row_of path (Put attrs) = Some (record { path = path; attrs = attrs })
row_of path Remove = None

-- the table after a commit of the change at the path
abbrev pub after : List Row → PathBytes → Change → List Row
after table path (Put attrs) = with_row table (record { path = path; attrs = attrs })
after table path Remove = without_path table path

-- the row without its text content
abbrev pub shown : Row → Row
shown row = record { path = row.path; attrs = without_name text_content row.attrs }

-- whether two rows are the same, path and attributes
abbrev pub same_row : Row → Row → Bool
same_row a b = is_same a.path b.path && same_attrs a.attrs b.attrs

-- each path stands after the one before it, and the first after this one
abbrev pub AscendFrom : PathBytes → List PathBytes → Type 0
AscendFrom least [] = Unit {0}
AscendFrom least (path ∷ paths) = (is_before least path ≡ true) × AscendFrom path paths
