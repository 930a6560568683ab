-- More digits never lessen a value.
use Rattle.std.proofs.Common.{◌≡◌, ◌≤◌, ◌<◌, ℕ, suc, ◌+◌, ◌*◌, ◌-◌, List, [], ◌∷◌, length, drop, get_or, sym, ap, ◌∙◌, arith, drop-cons}
use Rattle.md_expr_tree.specs.Numbers.{value_after}

pub at_least : (before : ℕ) (ds : List ℕ) → before ≤ value_after before ds
at_least before [] = omega arith
at_least before (d ∷ ds) = omega (arith, at_least (before * 10 + (d - 48)) ds)

-- past a digit
pub next : (all : ℕ) (ds : List ℕ) (i d : ℕ) → i < length ds → value_after all (drop i ds) ≡ d → value_after (all * 10 + (get_or ds i 0 - 48)) (drop (suc i) ds) ≡ d
next all ds i d h e = sym (ap (value_after all) (drop-cons ds i 0 h)) ∙ e

pub too_large : (all : ℕ) (ds : List ℕ) (i d limit : ℕ) → i < length ds → value_after all (drop i ds) ≡ d → limit < all * 10 + (get_or ds i 0 - 48) → limit < d
too_large all ds i d limit h e l = let n = next all ds i d h e in omega (arith, n, at_least (all * 10 + (get_or ds i 0 - 48)) (drop (suc i) ds))
