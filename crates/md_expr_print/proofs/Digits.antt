-- One decimal more.
use Rattle.std.proofs.Common.{◌≡◌, ◌<◌, ℕ, zero, suc, ◌+◌, ◌-◌, ◌/◌, ◌%◌, ◌^◌, ◌==◌, false, List, [], ◌∷◌, ◌++◌, refl, sym, ap, ◌∙◌, arith, append_assoc}
use Rattle.std.proofs.Math.Nat.{mod-lt, one-le-pow}
use Rattle.md_expr_print.specs.Literals.{decimals}

decimals_more : (k n : ℕ) → (n == 0) ≡ false → decimals (suc k) n ≡ (48 + n / 10 ^ k) ∷ decimals k (n % 10 ^ k)
decimals_more k n h = rw h refl

pub one_digit : (k left n : ℕ) (now next start : List ℕ) → left ≡ suc k → (n == 0) ≡ false → next ≡ now ++ (48 + n / 10 ^ k) ∷ [] → now ++ decimals left n ≡ start → next ++ decimals k (n % 10 ^ k) ≡ start
one_digit k left n now next start p h e s =
    ap (λ l. l ++ decimals k (n % 10 ^ k)) e
    ∙ append_assoc now ((48 + n / 10 ^ k) ∷ []) (decimals k (n % 10 ^ k))
    ∙ ap (λ l. now ++ l) (sym (decimals_more k n h))
    ∙ ap (λ m. now ++ decimals m n) (sym p)
    ∙ s

pub rest_below : (k n : ℕ) → n % 10 ^ k < 10 ^ k
rest_below k n = mod-lt n (one-le-pow k 10 (omega arith))

pub one_left : (left n : ℕ) → (n == 0) ≡ false → n < 10 ^ left → left ≡ suc (left - 1)
one_left zero zero h b = cc
one_left zero (suc n) h b = absurd (omega (arith, b))
one_left (suc k) n h b = omega arith
