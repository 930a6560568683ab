-- Texts of characters.
use Rattle.std.proofs.Common.{◌≡◌, ◌<◌, ℕ, true, ◌+◌, List, [], ◌∷◌, ◌++◌, length, take, get_or, chars, IsUtf8, ◌&&◌, sym, ap, ◌∙◌, append-nil}
use Rattle.std.specs.Char.{encode_utf8}
use Rattle.std.proofs.Math.Utf8.{scalar, scalars}
use Rattle.std.proofs.lemmas.List.{take_more}
use Rattle.std.proofs.lemmas.Str.{chars-nil, chars-append, chars-encodes}

pub no_characters : (text : List ℕ) → text ≡ [] → chars text ≡ []
no_characters text e = ap chars e ∙ chars-nil

pub pushed : (old new : List ℕ) (c : ℕ) → IsUtf8 old → scalar c ≡ true → new ≡ old ++ encode_utf8 c → chars new ≡ chars old ++ c ∷ []
pushed old new c utf8 is e =
    let one : scalars (c ∷ []) ≡ true = ap (λ b. b && true) is in
    ap chars e ∙ chars-append old (encode_utf8 c) utf8 ∙ ap (λ l. chars old ++ l) (ap chars (sym (append-nil (encode_utf8 c))) ∙ chars-encodes (c ∷ []) one)

pub turned : (xs : List ℕ) (i x : ℕ) (now next : List ℕ) → next ≡ now ++ x ∷ [] → now ≡ take i xs → i < length xs → x ≡ get_or xs i x → next ≡ take (i + 1) xs
turned xs i x now next e w h is = e ∙ ap (λ l. l ++ x ∷ []) w ∙ ap (λ y. take i xs ++ y ∷ []) is ∙ sym (take_more xs i x h)
