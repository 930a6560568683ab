-- Numbers as they are written are numbers.
use Rattle.std.proofs.Common.{◌≡◌, ◌≤◌, ◌<◌, ℕ, zero, suc, ◌+◌, ◌*◌, ◌-◌, ◌/◌, ◌%◌, ◌^◌, ◌==◌, Bool, true, false, cond, List, [], ◌∷◌, ◌++◌, ℤ, pos, negsuc, length, codes, refl, sym, ap, ◌∙◌, subst, arith, length-append, add-zero}
use Rattle.std.specs.Char.{is_ascii_digit}
use Rattle.std.specs.Fmt.{decimal}
use Rattle.std.specs.List.{list_all}
use Rattle.std.proofs.Math.Nat.{div-lt_iff_lt-mul, one-le-pow, mul_assoc, pow-succ'}
use Rattle.std.proofs.lemmas.Nat.{div-add-mod'}
use Rattle.std.proofs.lemmas.Bool.{eqb-true}
use Rattle.std.proofs.lemmas.Bool.Decides.{nat_tests}
use Rattle.std.proofs.lemmas.Fmt.{decimal_by_steps_wide}
use Rattle.std.proofs.lemmas.List.Folds.{list_all-append}
use Rattle.md_expr_tree.specs.Numbers.{AreDigits, value_after, value_of, signed, most, IsFraction, none as no_fraction, point, IsMinus, none as no_minus, minus, IsNumber, number}
use Rattle.md_expr_print.specs.Literals.{decimals, fraction_text, number_text}
use Rattle.md_expr_print.proofs.Digits.{rest_below}

-- ---- whole numbers

value_append : (before : ℕ) (xs : List ℕ) (d : ℕ) → value_after before (xs ++ d ∷ []) ≡ value_after before xs * 10 + (d - 48)
value_append before [] d = refl
value_append before (x ∷ xs) d = value_append (before * 10 + (x - 48)) xs d

digit : (n : ℕ) → n < 10 → is_ascii_digit (48 + n) ≡ true
digit n h = grind (arith, nat_tests, h)

-- digits that spell a number
pub record Spells (n : ℕ) (ds : List ℕ) : Type 0 where
  pub are : AreDigits ds
  pub value : value_of ds ≡ n

one : (n : ℕ) → n < 10 → Spells n ((48 + n) ∷ [])
one n h = record { are = record { some = omega arith; digits = rw (digit n h) refl }; value = omega arith }

more : (n : ℕ) (ds : List ℕ) → 10 ≤ n → Spells (n / 10) ds → Spells n (ds ++ ((48 + n % 10) ∷ []))
more n ds l s =
    let small : n % 10 < 10 = omega arith in
    record {
      are = record {
        some = omega (arith, s.are.some, length-append ds ((48 + n % 10) ∷ []));
        digits = list_all-append is_ascii_digit ds ((48 + n % 10) ∷ []) ∙ rw (s.are.digits, digit (n % 10) small) refl;
      };
      value = value_append 0 ds (48 + n % 10) ∙ ap (λ k. k * 10 + (48 + n % 10 - 48)) s.value ∙ omega arith;
    }

pub decimal_spells : (n : ℕ) → n < 10 ^ 64 → Spells n (decimal n)
decimal_spells n h = decimal_by_steps_wide Spells one more n h

-- ---- decimals

-- so many decimals of n, behind others
record Decimals (k n : ℕ) (ds : List ℕ) : Type 0 where
  all : list_all is_ascii_digit ds ≡ true
  short : length ds ≤ k
  value : (before : ℕ) → value_after before ds * 10 ^ (k - length ds) ≡ before * 10 ^ k + n

no_decimals : (k : ℕ) → Decimals k 0 []
no_decimals k = record { all = refl; short = omega arith; value = λ before. let e : k - 0 ≡ k = omega arith in ap (λ m. before * 10 ^ m) e ∙ sym (add-zero (before * 10 ^ k)) }

next_decimal : (k n : ℕ) (ds : List ℕ) → n < 10 ^ suc k → Decimals k (n % 10 ^ k) ds → Decimals (suc k) n ((48 + n / 10 ^ k) ∷ ds)
next_decimal k n ds h d =
    let some = one-le-pow k 10 (omega arith) in
    let below : n < 10 * 10 ^ k = subst (λ m. n < m) (pow-succ' 10 k) h in
    let q : n / 10 ^ k < 10 = (div-lt_iff_lt-mul {k = 10 ^ k} {x = n} {y = 10} some).1 below in
    record {
      all = rw (digit (n / 10 ^ k) q, d.all) refl;
      short = omega (arith, d.short);
      value = λ before.
          let left : suc k - length ((48 + n / 10 ^ k) ∷ ds) ≡ k - length ds = omega arith in
          let first : before * 10 + (48 + n / 10 ^ k - 48) ≡ before * 10 + n / 10 ^ k = omega arith in
          let power : before * 10 ^ suc k ≡ before * 10 * 10 ^ k = ap (λ m. before * m) (pow-succ' 10 k) ∙ sym (mul_assoc before 10 (10 ^ k)) in
          let whole = div-add-mod' n (10 ^ k) in
          ap (λ m. value_after (before * 10 + (48 + n / 10 ^ k - 48)) ds * 10 ^ m) left
          ∙ ap (λ b. value_after b ds * 10 ^ (k - length ds)) first
          ∙ d.value (before * 10 + n / 10 ^ k)
          ∙ grind (arith, power, whole);
    }

are_decimals : (k n : ℕ) → n < 10 ^ k → Decimals k n (decimals k n)
are_decimals zero n h = let e : n ≡ 0 = omega (arith, h) in subst (λ m. Decimals 0 m []) (sym e) (no_decimals 0)
are_decimals (suc k) n h = go (n == 0) refl (are_decimals k (n % 10 ^ k) (rest_below k n))
  where
    go : (b : Bool) → (n == 0) ≡ b → Decimals k (n % 10 ^ k) (decimals k (n % 10 ^ k)) → Decimals (suc k) n (cond b [] ((48 + n / 10 ^ k) ∷ decimals k (n % 10 ^ k)))
    go true e d = subst (λ m. Decimals (suc k) m []) (sym (eqb-true n 0 e)) (no_decimals (suc k))
    go false e d = next_decimal k n (decimals k (n % 10 ^ k)) h d

-- decimals of a number that is not 0 are some
some_decimals : (k n : ℕ) → (n == 0) ≡ false → 0 < length (decimals (suc k) n)
some_decimals k n h = rw h (omega arith)

pub is_fraction : (parts : ℕ) → parts < 10 ^ 9 → IsFraction (fraction_text parts) parts
is_fraction parts h = go (parts == 0) refl
  where
    go : (b : Bool) → (parts == 0) ≡ b → IsFraction (cond b [] (codes "." ++ decimals 9 parts)) parts
    go true e = subst (λ m. IsFraction [] m) (sym (eqb-true parts 0 e)) no_fraction
    go false e =
        let d = are_decimals 9 parts h in
        let value : value_of (decimals 9 parts) * 10 ^ (9 - length (decimals 9 parts)) ≡ parts = d.value 0 ∙ omega arith in
        subst (λ m. IsFraction (46 ∷ decimals 9 parts) m) value (point (record { some = some_decimals 8 parts e; digits = d.all }) d.short)

-- ---- numbers

-- the number is one of 64 bits with sign, in parts of 10^9
abbrev pub IsWithin : ℤ → Type 0
IsWithin (pos n) = n ≤ most false * 10 ^ 9
IsWithin (negsuc n) = suc n ≤ most true * 10 ^ 9

within_signed : (negative : Bool) (n : ℕ) → n ≤ most negative * 10 ^ 9 → IsWithin (signed negative n)
within_signed false n h = h
within_signed true zero h = omega arith
within_signed true (suc n) h = h

pub within : {text : List ℕ} {z : ℤ} → IsNumber text z → IsWithin z
within (number {whole} {negative} {parts} is are f h) = within_signed negative (value_of whole * 10 ^ 9 + parts) h

-- a sign, and a size in parts
sized : {sign : List ℕ} {negative : Bool} → IsMinus sign negative → (n : ℕ) → n ≤ most true * 10 ^ 9 → n ≤ most negative * 10 ^ 9 → IsNumber (sign ++ (decimal (n / 10 ^ 9) ++ fraction_text (n % 10 ^ 9))) (signed negative n)
sized {sign} {negative} is n small h =
    let whole = decimal_spells (n / 10 ^ 9) (omega (arith, small)) in
    let parts = is_fraction (n % 10 ^ 9) (omega arith) in
    let e : value_of (decimal (n / 10 ^ 9)) * 10 ^ 9 + n % 10 ^ 9 ≡ n = ap (λ k. k * 10 ^ 9 + n % 10 ^ 9) whole.value ∙ omega arith in
    subst (λ k. IsNumber (sign ++ (decimal (n / 10 ^ 9) ++ fraction_text (n % 10 ^ 9))) (signed negative k)) e
    (number is whole.are parts (subst (λ k. k ≤ most negative * 10 ^ 9) (sym e) h))

pub number_again : (z : ℤ) → IsWithin z → IsNumber (number_text z) z
number_again (pos n) h = sized no_minus n (omega (arith, h)) h
number_again (negsuc n) h = sized minus (suc n) h h
