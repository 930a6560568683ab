-- Numbers are found where they stand, and stand where they are found.
use Rattle.std.proofs.Common.{◌≡◌, ◌≤◌, ◌<◌, ℕ, zero, suc, ◌+◌, ◌*◌, ◌-◌, ◌^◌, Bool, true, false, ◌==◌, nat_le, cond, List, [], ◌∷◌, ◌++◌, length, Some, refl, sym, ap, ◌∙◌, subst, arith, append_assoc}
use Rattle.std.specs.Char.{is_ascii_digit}
use Rattle.std.specs.List.{list_all}
use Rattle.std.specs.Option.{option_and_then}
use Rattle.std.proofs.lemmas.Bool.{eqb-true, leb-true, le-leb, and_parts}
use Rattle.std.proofs.lemmas.Nat.{mul-le}
use Rattle.std.proofs.Math.Nat.{pow-succ', mul_assoc, one-le-pow}
use Rattle.md_expr_tree.specs.declared.tree.Literal.TheVariants as literal
use Rattle.md_expr_tree.specs.declared.token.Token.{Token}
use Rattle.md_expr_tree.specs.declared.token.Token.TheVariants as token
use Rattle.md_expr_tree.specs.Classes.{BeginsWithNo}
use Rattle.md_expr_tree.specs.Numbers.{AreDigits, value_after, value_of, signed, most, IsFraction, none, point}
use Rattle.md_expr_tree.specs.Tokens.{may_not_follow_number}
use Rattle.md_expr_lex.specs.Prefix.{prefix, begins}
use Rattle.md_expr_lex.specs.Numbers.{decimals_of, fraction_at, ended, number_from, number_at}
use Rattle.md_expr_lex.proofs.Prefixes.{Prefixed, prefix_sound, prefix_found, before, not_begun, weaken}
use Rattle.md_expr_lex.proofs.Options.{chosen, passed, bound, mapped, same}
use Rattle.md_expr_lex.proofs.Tells.{fails}

-- ---- found

small : (d : ℕ) → is_ascii_digit d ≡ true → d - 48 ≤ 9
small d h = grind (arith, h)

-- at most n digits behind a value below a limit
below : (n before limit : ℕ) (ds : List ℕ) → length ds ≤ n → list_all is_ascii_digit ds ≡ true → before < limit → value_after before ds < limit * 10 ^ n
below n before limit [] l a h =
    let p : limit * 1 ≤ limit * 10 ^ n = mul-le limit 1 limit (10 ^ n) (omega arith) (one-le-pow n 10 (omega arith)) in
    omega (arith, p)
below zero before limit (d ∷ ds) l a h = absurd (omega (arith, l))
below (suc n) before limit (d ∷ ds) l a h =
    let p = and_parts (is_ascii_digit d) (list_all is_ascii_digit ds) a in
    let s = small d p.0 in
    let there = below n (before * 10 + (d - 48)) (limit * 10) ds (omega (arith, l)) p.1 (omega (arith, h, s)) in
    let e : limit * 10 ^ suc n ≡ limit * 10 * 10 ^ n = ap (λ k. limit * k) (pow-succ' 10 n) ∙ sym (mul_assoc limit 10 (10 ^ n)) in
    rw e there

no_digit : (c : ℕ) → may_not_follow_number c ≡ false → is_ascii_digit c ≡ false
no_digit c h = grind (arith, h)

decimals_found : (ds rest : List ℕ) → AreDigits ds → length ds ≤ 9 → decimals_of (ds, rest) ≡ Some (value_of ds * 10 ^ (9 - length ds), rest)
decimals_found ds rest are l =
    let b = below 9 0 1 ds l are.digits (omega arith) in
    let v : nat_le (value_of ds) (2 ^ 63) ≡ true = le-leb _ _ (omega (arith, b)) in
    let s : nat_le 1 (length ds) ≡ true = le-leb _ _ (omega (arith, are.some)) in
    let t : nat_le (length ds) 9 ≡ true = le-leb _ _ l in
    rw (v, s, t) refl

fraction_found : {fraction : List ℕ} {parts : ℕ} → IsFraction fraction parts → (rest : List ℕ) → BeginsWithNo may_not_follow_number rest → fraction_at (fraction ++ rest) ≡ Some (parts, rest)
fraction_found none [] h = refl
fraction_found none (c ∷ cs) h = rw (fails may_not_follow_number c 46 h refl) refl
fraction_found (point {ds} are l) rest h =
    ap decimals_of (prefix_found is_ascii_digit ds rest are.digits (weaken may_not_follow_number is_ascii_digit rest no_digit h)) ∙ decimals_found ds rest are l

no_digit_behind : {fraction : List ℕ} {parts : ℕ} → IsFraction fraction parts → (rest : List ℕ) → BeginsWithNo may_not_follow_number rest → BeginsWithNo is_ascii_digit (fraction ++ rest)
no_digit_behind none rest h = weaken may_not_follow_number is_ascii_digit rest no_digit h
no_digit_behind (point are l) rest h = refl

pub number_found : {whole fraction : List ℕ} {parts : ℕ} (negative : Bool) → AreDigits whole → IsFraction fraction parts → value_of whole * 10 ^ 9 + parts ≤ most negative * 10 ^ 9 → (rest : List ℕ) → BeginsWithNo may_not_follow_number rest → number_at negative ((whole ++ fraction) ++ rest) ≡ Some (token.Value (literal.Number (signed negative (value_of whole * 10 ^ 9 + parts))), rest)
number_found {whole} {fraction} {parts} negative are is within rest h =
    let s : nat_le 1 (length whole) ≡ true = le-leb _ _ (omega (arith, are.some)) in
    let t : nat_le (value_of whole * 10 ^ 9 + parts) (most negative * 10 ^ 9) ≡ true = le-leb _ _ within in
    let n : begins may_not_follow_number rest ≡ false = not_begun may_not_follow_number rest h in
    let last : ended negative whole (parts, rest) ≡ Some (token.Value (literal.Number (signed negative (value_of whole * 10 ^ 9 + parts))), rest) = rw (n, s, t) refl in
    ap (number_at negative) (append_assoc whole fraction rest)
    ∙ ap (number_from negative) (prefix_found is_ascii_digit whole (fraction ++ rest) are.digits (no_digit_behind is rest h))
    ∙ ap (option_and_then (ended negative whole)) (fraction_found is rest h)
    ∙ last

-- ---- stand

are_digits : (ds : List ℕ) → nat_le 1 (length ds) ≡ true → list_all is_ascii_digit ds ≡ true → AreDigits ds
are_digits ds s a = record { some = omega (arith, leb-true 1 (length ds) s); digits = a }

-- decimals and what follows them
record Fraction (text : List ℕ) (x : ℕ × List ℕ) : Type 0 where
  fraction : List ℕ
  whole : text ≡ fraction ++ x.1
  is : IsFraction fraction x.0

decimals_sound : (cs ds rest : List ℕ) (x : ℕ × List ℕ) → cs ≡ ds ++ rest → list_all is_ascii_digit ds ≡ true → decimals_of (ds, rest) ≡ Some x → Fraction (46 ∷ cs) x
decimals_sound cs ds rest x w a e =
    let v = chosen _ _ x e in
    let m = mapped _ _ x v.1 in
    let s = chosen _ _ m.0 m.1 in
    let b = and_parts _ _ s.0 in
    let scale = same (10 ^ (9 - length ds)) m.0 s.1 in
    let p : (value_of ds * 10 ^ (9 - length ds), rest) ≡ x = ap (λ k. (value_of ds * k, rest)) scale ∙ m.2 in
    let there : Fraction (46 ∷ cs) (value_of ds * 10 ^ (9 - length ds), rest) = record { fraction = 46 ∷ ds; whole = ap (λ l. 46 ∷ l) w; is = point (are_digits ds b.0 a) (leb-true (length ds) 9 b.1) } in
    subst (Fraction (46 ∷ cs)) p there

fraction_sound : (text : List ℕ) (x : ℕ × List ℕ) → fraction_at text ≡ Some x → Fraction text x
fraction_sound [] x e =
    let p = same (0, []) x e in
    let there : Fraction [] (0, []) = record { fraction = []; whole = refl; is = none } in
    subst (Fraction []) p there
fraction_sound (c ∷ cs) x e = go (c == 46) refl e
  where
    go : (r : Bool) → (c == 46) ≡ r → cond r (decimals_of (prefix is_ascii_digit cs)) (Some (0, c ∷ cs)) ≡ Some x → Fraction (c ∷ cs) x
    go true h e =
        let f = prefix_sound is_ascii_digit cs in
        subst (λ n. Fraction (n ∷ cs) x) (sym (eqb-true c 46 h)) (decimals_sound cs (prefix is_ascii_digit cs).0 (prefix is_ascii_digit cs).1 x f.whole f.all e)
    go false h e =
        let p = same (0, c ∷ cs) x e in
        let there : Fraction (c ∷ cs) (0, c ∷ cs) = record { fraction = []; whole = refl; is = none } in
        subst (Fraction (c ∷ cs)) p there

-- a number behind its sign
pub record Numbered (negative : Bool) (text : List ℕ) (x : Token × List ℕ) : Type 0 where
  pub whole : List ℕ
  pub fraction : List ℕ
  pub parts : ℕ
  pub are : AreDigits whole
  pub is : IsFraction fraction parts
  pub within : value_of whole * 10 ^ 9 + parts ≤ most negative * 10 ^ 9
  pub text_is : text ≡ (whole ++ fraction) ++ x.1
  pub over : BeginsWithNo may_not_follow_number x.1
  pub token : token.Value (literal.Number (signed negative (value_of whole * 10 ^ 9 + parts))) ≡ x.0

number_from_sound : (negative : Bool) (text : List ℕ) (f : List ℕ × List ℕ) (x : Token × List ℕ) → Prefixed is_ascii_digit text f → number_from negative f ≡ Some x → Numbered negative text x
number_from_sound negative text f x there e =
    let y = bound (ended negative f.0) (fraction_at f.1) x e in
    let d = fraction_sound f.1 y.0 y.1 in
    let o = passed _ _ x y.2 in
    let m = mapped _ _ x o.1 in
    let s = chosen _ _ m.0 m.1 in
    let w = chosen _ _ m.0 s.1 in
    let n = same (signed negative (value_of f.0 * 10 ^ 9 + y.0.0)) m.0 w.1 in
    let t : text ≡ (f.0 ++ d.fraction) ++ y.0.1 = there.whole ∙ ap (λ l. f.0 ++ l) d.whole ∙ sym (append_assoc f.0 d.fraction y.0.1) in
    let after : y.0.1 ≡ x.1 = ap (λ z. z.1) m.2 in
    record {
      whole = f.0;
      fraction = d.fraction;
      parts = y.0.0;
      are = are_digits f.0 s.0 there.all;
      is = d.is;
      within = leb-true _ _ w.0;
      text_is = t ∙ ap (λ l. (f.0 ++ d.fraction) ++ l) after;
      over = subst (λ l. BeginsWithNo may_not_follow_number l) after (before may_not_follow_number y.0.1 o.0);
      token = ap (λ k. token.Value (literal.Number k)) n ∙ ap (λ z. z.0) m.2;
    }

pub number_sound : (negative : Bool) (text : List ℕ) (x : Token × List ℕ) → number_at negative text ≡ Some x → Numbered negative text x
number_sound negative text x e = number_from_sound negative text (prefix is_ascii_digit text) x (prefix_sound is_ascii_digit text) e
