-- The characters of a text that has grown.
use Rattle.std.proofs.Common.{◌≡◌, ℕ, suc, Bool, true, false, ◌<◌, ◌&&◌, List, [], ◌∷◌, ◌++◌, refl, sym, ap, ◌∙◌, chars, IsUtf8, arith, append-nil}
use Rattle.std.specs.Char.{is_ascii, encode_utf8}
use Rattle.std.specs.List.{list_all}
use Rattle.std.specs.Str.{IsAscii}
use Rattle.std.proofs.Math.Utf8.{scalar, scalars}
use Rattle.std.proofs.lemmas.Bool.Decides.{nat_tests}
use Rattle.std.proofs.lemmas.Str.{chars-append, chars-encodes, chars-IsAscii}
use Rattle.std.proofs.lemmas.Str.Ascii.{IsAscii-nil, IsAscii-cons}
use Rattle.std.proofs.lemmas.Bool.{and_parts}

pub appended : (old new bytes text : List ℕ) → IsUtf8 old → new ≡ old ++ bytes → chars bytes ≡ text → chars new ≡ chars old ++ text
appended old new bytes text utf8 e h = ap chars e ∙ chars-append old bytes utf8 ∙ ap (λ l. chars old ++ l) h

pub one_char : (c : ℕ) → scalar c ≡ true → chars (encode_utf8 c) ≡ c ∷ []
one_char c is =
    let one : scalars (c ∷ []) ≡ true = ap (λ b. b && true) is in
    ap chars (sym (append-nil (encode_utf8 c))) ∙ chars-encodes (c ∷ []) one

small : (c : ℕ) → is_ascii c ≡ true → c < 128
small c h = grind (arith, h)

are_small : (cs : List ℕ) → list_all is_ascii cs ≡ true → IsAscii cs
are_small [] h = IsAscii-nil
are_small (c ∷ cs) h = let p = and_parts (is_ascii c) (list_all is_ascii cs) h in IsAscii-cons c cs (small c p.0) (are_small cs p.1)

pub ascii_chars : (cs : List ℕ) → list_all is_ascii cs ≡ true → chars cs ≡ cs
ascii_chars cs h = chars-IsAscii cs (are_small cs h)

one_small : (c : ℕ) → c < 128 → is_ascii c ≡ true
one_small c h = grind (arith, nat_tests, h)

pub ascii_all : (cs : List ℕ) → IsAscii cs → list_all is_ascii cs ≡ true
ascii_all [] h = refl
ascii_all (c ∷ cs) h = rw (one_small c (h 0), ascii_all cs (λ i. h (suc i))) refl
