-- How large an expression may be.
use Rattle.std.specs.Prelude.{ℕ}

-- the most bytes of its text
abbrev pub most_bytes : ℕ
most_bytes = 65_536

-- the most groups that are open at one place
abbrev pub most_groups : ℕ
most_groups = 64

-- the most comparisons
abbrev pub most_comparisons : ℕ
most_comparisons = 4_096
