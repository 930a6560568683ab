-- The clients of a script in the order of their numbers.
use Rattle.std.specs.Prelude.{ℕ, nat_lt, List, [], ◌∷◌, Option, None, Some, if◌then◌else◌}
use Rattle.md_script.specs.declared.script.Line.{Line}
use Rattle.md_clients.specs.Asks.{asker}

-- the lesser of two numbers, of which the first may be none
abbrev pub lesser : Option ℕ → ℕ → ℕ
lesser None client = client
lesser (Some other) client = if nat_lt client other then client else other

-- the lesser of two clients, where the second is one that has this number or a greater one
abbrev pub nearer : ℕ → Option ℕ → Option ℕ → Option ℕ
nearer least best None = best
nearer least best (Some client) = if nat_lt client least then best else Some (lesser best client)

-- the least client that asks something by one of these lines, of those with this number or a greater one, or the best so far
abbrev pub next_in : ℕ → Option ℕ → List Line → Option ℕ
next_in least best [] = best
next_in least best (line ∷ lines) = next_in least (nearer least best (asker line.what)) lines
