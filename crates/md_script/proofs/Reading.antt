-- Texts and paths of bytes.
use Rattle.std.proofs.Common.{◌≡◌, ℕ, Bool, true, false, List, Some, None, if◌then◌else◌, refl, sym, ◌∙◌, ap, IsUtf8}
use Rattle.std.specs.Str.{is_utf8}
use Rattle.std.proofs.lemmas.Str.{is_utf8-from_IsUtf8, IsUtf8-from_is_utf8}
use Rattle.md_value.specs.Path.{is_bad, normal}
use Rattle.md_script.specs.Words.{is_path}

pub text_some : (bs ts : List ℕ) → ts ≡ bs → IsUtf8 bs → Some ts ≡ (if is_utf8 bs then Some bs else None)
text_some bs ts same utf8 = rw (is_utf8-from_IsUtf8 bs utf8) (ap Some same)

no_text : (b : Bool) (bs : List ℕ) → (b ≡ true → ⊥) → None ≡ (if b then Some bs else None)
no_text true bs h = absurd (h refl)
no_text false bs h = refl

pub text_none : (bs : List ℕ) → (IsUtf8 bs → ⊥) → None ≡ (if is_utf8 bs then Some bs else None)
text_none bs none = no_text (is_utf8 bs) bs (λ is. none (IsUtf8-from_is_utf8 bs is))

utf8_of : (b : Bool) (bs ts : List ℕ) → Some ts ≡ (if b then Some bs else None) → (b ≡ true) × (ts ≡ bs)
utf8_of true bs ts is = (refl, cc)
utf8_of false bs ts is = cc

-- a text that is no bad path is the path in normal form
pub path_read : (bs ts path : List ℕ) → Some ts ≡ (if is_utf8 bs then Some bs else None) → is_bad ts ≡ false → path ≡ normal ts → Some path ≡ (if is_path bs then Some (normal bs) else None)
unfolding is_path
path_read bs ts path text good is =
    let known = utf8_of (is_utf8 bs) bs ts text in
    let good' : is_bad bs ≡ false = ap is_bad (sym known.1) ∙ good in
    rw (known.0, good') (ap Some (is ∙ ap normal known.1))

pub path_bad : (bs ts : List ℕ) → Some ts ≡ (if is_utf8 bs then Some bs else None) → is_bad ts ≡ true → None ≡ (if is_path bs then Some (normal bs) else None)
unfolding is_path
path_bad bs ts text bad =
    let known = utf8_of (is_utf8 bs) bs ts text in
    let bad' : is_bad bs ≡ true = ap is_bad (sym known.1) ∙ bad in
    rw (known.0, bad') refl
