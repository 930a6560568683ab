-- The sequence that is drawn from: a draw moves the state on, and answers a number below a bound.
use Rattle.std.specs.Prelude.{ℕ, ◌+◌, ◌*◌, ◌/◌, ◌%◌, ◌^◌}

-- the state that a draw leaves
unfoldable pub next : ℕ → ℕ
next state = (state * 6364136223846793005 + 1442695040888963407) % 2 ^ 64

-- what a draw below a bound answers
unfoldable pub drawn : ℕ → ℕ → ℕ
drawn state bound = next state / 2 ^ 33 % bound
