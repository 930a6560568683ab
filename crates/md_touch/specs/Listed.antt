-- The places of one list.
use Rattle.std.specs.Prelude.{ℕ, List, [], ◌∷◌, if◌then◌else◌}
use Rattle.md_touch.specs.declared.kind.Kind.{Kind}
use Rattle.md_touch.specs.Kinds.{is_kind}

-- the places in one list
abbrev pub places_of : Kind → List (ℕ × Kind) → List ℕ
places_of kind [] = []
places_of kind (entry ∷ kinds) = if is_kind kind entry.1 then entry.0 ∷ places_of kind kinds else places_of kind kinds
