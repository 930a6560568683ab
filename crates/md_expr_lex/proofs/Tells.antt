-- What the tests of characters tell.
use Rattle.std.proofs.Common.{◌≡◌, ℕ, Bool, true, false, ◌||◌, ◌==◌, cond, refl, sym, ap, subst, arith}
use Rattle.std.proofs.lemmas.Bool.{eqb-true, eq-eqb}
use Rattle.std.specs.Char.{is_ascii_digit}
use Rattle.md_value.specs.Name.{is_name_start}
use Rattle.md_expr_tree.specs.Classes.{is_blank, is_quote}
use Rattle.md_expr_lex.specs.declared.class.Kind.{Kind}
use Rattle.md_expr_lex.specs.declared.class.Kind.TheVariants as kind
use Rattle.md_expr_lex.specs.Kinds.{kind_of}

-- a test tells apart a number at which it fails
pub differs : (p : ℕ → Bool) (b k : ℕ) → p b ≡ true → p k ≡ false → (b == k) ≡ false
differs p b k at_b at_k = go (b == k) refl
  where
    go : (r : Bool) → (b == k) ≡ r → (b == k) ≡ false
    go true e = let same : p b ≡ p k = ap p (eqb-true b k e) in cc
    go false e = e

pub fails : (p : ℕ → Bool) (b k : ℕ) → p b ≡ false → p k ≡ true → (b == k) ≡ false
fails p b k at_b at_k = go (b == k) refl
  where
    go : (r : Bool) → (b == k) ≡ r → (b == k) ≡ false
    go true e = let same : p b ≡ p k = ap p (eqb-true b k e) in cc
    go false e = e

pub self : (b : ℕ) → (b == b) ≡ true
self b = eq-eqb b b refl

pub letter_kind : (b : ℕ) → is_name_start b ≡ true → kind_of b ≡ kind.Letter
letter_kind b h = rw (differs is_name_start b 32 h refl, differs is_name_start b 9 h refl, differs is_name_start b 10 h refl, differs is_name_start b 13 h refl, h) refl

no_letter : (b : ℕ) → is_ascii_digit b ≡ true → is_name_start b ≡ false
no_letter b h = grind (arith, h)

pub digit_kind : (b : ℕ) → is_ascii_digit b ≡ true → kind_of b ≡ kind.Digit
digit_kind b h =
    rw (differs is_ascii_digit b 32 h refl, differs is_ascii_digit b 9 h refl, differs is_ascii_digit b 10 h refl, differs is_ascii_digit b 13 h refl, no_letter b h, differs is_ascii_digit b 34 h refl, differs is_ascii_digit b 39 h refl, h) refl

-- a quote is one of two characters
pub at_quote : (P : ℕ → Type 0) (b : ℕ) → is_quote b ≡ true → P 34 → P 39 → P b
at_quote P b h single double = go (b == 34) (b == 39) refl refl h
  where
    go : (r s : Bool) → (b == 34) ≡ r → (b == 39) ≡ s → (r || s) ≡ true → P b
    go true s e f t = subst P (sym (eqb-true b 34 e)) single
    go false true e f t = subst P (sym (eqb-true b 39 f)) double
    go false false e f t = cc

pub quote_kind : (b : ℕ) → is_quote b ≡ true → kind_of b ≡ kind.Quote
quote_kind b h = let P : ℕ → Type 0 = λ k. kind_of k ≡ kind.Quote in at_quote P b h refl refl

pub not_escape : (b : ℕ) → is_quote b ≡ true → (92 == b) ≡ false
not_escape b h = let P : ℕ → Type 0 = λ k. (92 == k) ≡ false in at_quote P b h refl refl

pub not_wildcard : (b : ℕ) → is_quote b ≡ true → (42 == b) ≡ false
not_wildcard b h = let P : ℕ → Type 0 = λ k. (42 == k) ≡ false in at_quote P b h refl refl

-- what a character is read as
unfoldable pub Tells : ℕ → Kind → Type 0
Tells b kind.Blank = is_blank b ≡ true
Tells b kind.Letter = is_name_start b ≡ true
Tells b kind.Quote = is_quote b ≡ true
Tells b kind.Digit = is_ascii_digit b ≡ true
Tells b kind.Minus = b ≡ 45
Tells b kind.Dollar = b ≡ 36
Tells b kind.Equal = b ≡ 61
Tells b kind.Bang = b ≡ 33
Tells b kind.Less = b ≡ 60
Tells b kind.Greater = b ≡ 62
Tells b kind.Ampersand = b ≡ 38
Tells b kind.Bar = b ≡ 124
Tells b kind.Star = b ≡ 42
Tells b kind.Open = b ≡ 40
Tells b kind.Close = b ≡ 41
Tells b kind.Comma = b ≡ 44
Tells b kind.Other = Unit {0}

either : (b : ℕ) (p : Bool) (x y : Kind) → (p ≡ true → Tells b x) → Tells b y → Tells b (cond p x y)
either b true x y f g = f refl
either b false x y f g = g

pub kind_tells : (b : ℕ) → Tells b (kind_of b)
unfolding Tells
kind_tells b =
    either b (is_blank b) _ _ (λ e. e) (either b (is_name_start b) _ _ (λ e. e) (either b (is_quote b) _ _ (λ e. e) (either b (is_ascii_digit b) _ _ (λ e. e)
    (either b (b == 45) _ _ (eqb-true b 45) (either b (b == 36) _ _ (eqb-true b 36)
    (either b (b == 61) _ _ (eqb-true b 61) (either b (b == 33) _ _ (eqb-true b 33) (either b (b == 60) _ _ (eqb-true b 60) (either b (b == 62) _ _ (eqb-true b 62)
    (either b (b == 38) _ _ (eqb-true b 38) (either b (b == 124) _ _ (eqb-true b 124) (either b (b == 42) _ _ (eqb-true b 42) (either b (b == 40) _ _ (eqb-true b 40)
    (either b (b == 41) _ _ (eqb-true b 41) (either b (b == 44) _ kind.Other (eqb-true b 44) tt)))))))))))))))
