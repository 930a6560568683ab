-- Numbers that seats draw, each of them once.
use Rattle.std.specs.Prelude.{◌≡◌, ℕ, ◌+◌, ◌<◌, ◌==◌, ◌≤◌, nat_lt, List, [], ◌∷◌, ◌++◌, length, All, Option, None, Some, if◌then◌else◌}
use Rattle.atomic_table.specs.Seated.{TableId}

-- which claims they are, and how many numbers may be claimed
pub record Pool : Type 0 where
  pub id : TableId
  pub numbers : ℕ

-- the claims that a seat is of, how many numbers it may draw in all, and those that it drew, in order
pub record Drawer : Type 0 where
  pub id : TableId
  pub share : ℕ
  pub drawn : List ℕ

-- how many numbers a seat drew
abbrev pub made_by : Drawer → ℕ
made_by seat = length seat.drawn

-- the shares of all seats of some claims together
abbrev pub whole_share : ℕ
whole_share = 18446744073709551615

-- the sum of f over a list
abbrev pub total_of : {V : Type 0} → (V → ℕ) → List V → ℕ
total_of f [] = 0
total_of f (x ∷ xs) = f x + total_of f xs

-- how often a number is in a list
abbrev pub times : ℕ → List ℕ → ℕ
times x numbers = total_of (λ number. if number == x then 1 else 0) numbers

-- 1 for a number below the bound, else 0
abbrev pub once_below : ℕ → ℕ → ℕ
once_below x bound = if nat_lt x bound then 1 else 0

-- the number, if it is below the bound
abbrev pub within : ℕ → ℕ → Option ℕ
within bound number = if nat_lt number bound then Some number else None

-- The seat drew one number more, greater than each that it had drawn; as their count is no greater, at most as many claims
-- are answered by a number as there are numbers. The answer is this number, or none where it may not be claimed.
pub record IsClaimed (pool : Pool) (before after : Drawer) (answer : Option ℕ) : Type 0 where
  pub number : ℕ
  pub drawn : after ≡ record before { drawn = before.drawn ++ number ∷ [] }
  pub above : All (λ earlier. earlier < number) before.drawn
  pub least : made_by before ≤ number
  pub answer_is : answer ≡ within pool.numbers number

-- Of the numbers below the count of the claims made, each was drawn by one of the seats and once; no other number was drawn.
abbrev pub EachDrawnOnce : List Drawer → Type 0
EachDrawnOnce seats = (x : ℕ) → total_of (λ (seat : Drawer). times x seat.drawn) seats ≡ once_below x (total_of made_by seats)
