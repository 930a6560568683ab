-- The rows that references lead to.
use Rattle.std.specs.Prelude.{List, map}
use Rattle.std.specs.Borrow.{Bor}
use Rattle.md_world.specs.declared.Row.{Row}

-- the rows of a list of references
abbrev pub rows_of : List (Bor Row) → List Row
rows_of hits = map (λ hit. hit.now) hits
