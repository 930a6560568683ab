-- How large a script may be.
use Rattle.std.specs.Prelude.{ℕ}

-- the most bytes
abbrev pub most_bytes : ℕ
most_bytes = 67_108_864

-- the most lines
abbrev pub most_lines : ℕ
most_lines = 100_000

-- the most keys of a query's order
abbrev pub most_keys : ℕ
most_keys = 8
