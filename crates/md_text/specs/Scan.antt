-- The leftmost place of a piece in a text.
use Rattle.std.specs.Prelude.{ℕ, nat_eq, List, [], ◌∷◌, length, drop, Option, Some, None, if◌then◌else◌}
use Rattle.std.specs.List.{starts_with}

-- what stands after it
abbrev pub first_after : (piece text : List ℕ) → Option (List ℕ)
first_after piece [] = if starts_with nat_eq [] piece then Some [] else None
first_after piece (c ∷ cs) =
    if starts_with nat_eq (c ∷ cs) piece then Some (drop (length piece) (c ∷ cs)) else first_after piece cs
