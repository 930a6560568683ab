-- Rows that are kept in order.
use Rattle.std.specs.Prelude.{◌≡◌, ℕ, ◌<◌, false, List}
use Rattle.std.specs.List.{IsDistinct}
use Rattle.md_value.specs.Values.{PathBytes, is_same}
use Rattle.md_world.specs.declared.Row.{Row}
use Rattle.md_world.specs.declared.order.SortKey.{SortKey}
use Rattle.md_world.specs.Tables.{has_path}
use Rattle.md_world.specs.Orders.{IsOrdered}

-- an order, the rows that are kept in it, and for how many more there is room
pub record Kept : Type 0 where
  pub order : List SortKey
  pub rows : List Row
  pub spare : ℕ

-- no two rows have the same path
abbrev pub PathsDiffer : List Row → Type 0
PathsDiffer rows = IsDistinct (λ (a b : Row). is_same a.path b.path) rows

-- the rows have distinct paths, and each stands before each later one
pub record AreKept (order : List SortKey) (rows : List Row) : Type 0 where
  pub distinct : PathsDiffer rows
  pub ordered : IsOrdered order rows

-- a row of the path is kept already, or there is room for one more
abbrev pub HasRoom : Kept → PathBytes → Type 0
HasRoom kept path = has_path kept.rows path ≡ false → 0 < kept.spare
