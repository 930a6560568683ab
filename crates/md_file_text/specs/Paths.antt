-- How a path is printed.
use Rattle.std.specs.Prelude.{ℕ, ◌==◌, List, [], ◌∷◌, length, codes, if◌then◌else◌}
use Rattle.std.specs.List.{flat_map}
use Rattle.md_value.specs.Values.{PathBytes}

-- a byte of a path as it is printed
abbrev pub escape : ℕ → List ℕ
escape b =
    if b == 92 then codes "\\\\"
    else if b == 9 then codes "\\t"
    else if b == 10 then codes "\\n"
    else if b == 13 then codes "\\r"
    else b ∷ []

-- a path as it is printed
unfoldable pub escaped : PathBytes → List ℕ
escaped path = flat_map escape path

-- a path at the beginning of a line on what failed: the root, whose text is empty, is `.`
unfoldable pub shown_path : PathBytes → List ℕ
shown_path path = if length path == 0 then codes "." else escaped path
