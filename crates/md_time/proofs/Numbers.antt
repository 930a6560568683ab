-- Numbers from digits, one digit at a time.
use Rattle.std.proofs.Common.{◌≡◌, ℕ, zero, ◌+◌, ◌-◌, ◌*◌, suc, ◌<◌, List, [], ◌∷◌, length, get_or, take, arith}
use Rattle.md_time.specs.IsoTexts.{number_after}

pub number_after-more : (n : ℕ) (xs : List ℕ) (i d : ℕ) → i < length xs → number_after n (take (i + 1) xs) ≡ 10 * number_after n (take i xs) + (get_or xs i d - 48)
number_after-more n [] i d h = absurd (omega arith)
number_after-more n (x ∷ xs) zero d h = grind arith
number_after-more n (x ∷ xs) (suc i) d h = grind (arith, number_after-more (10 * n + (x - 48)) xs i d (omega arith))
