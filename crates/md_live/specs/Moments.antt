-- The moment of a line.
use Rattle.std.specs.Prelude.{ℕ, ◌/◌, ℤ, pos, ◌+ℤ◌}
use Rattle.std.specs.Int.{int_min}
use Rattle.md_value.specs.Values.{last_moment}

-- the moment in seconds of a line at so many milliseconds of a run that began now: at most the end of the year 9999
abbrev pub moment_of : ℤ → ℕ → ℤ
moment_of now ms = int_min (now +ℤ pos (ms / 1000)) last_moment
