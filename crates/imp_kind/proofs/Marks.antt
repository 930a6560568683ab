-- A text may be cut after a byte order mark; bytes that are text are read, and others are not.
use Rattle.std.proofs.Common.{◌≡◌, ℕ, ◌&&◌, Bool, true, false, nat_eq, List, [], ◌∷◌, ◌++◌, IsUtf8, Err, cond, arith, refl, ap, ◌∙◌, drop, ℤ}
use Rattle.std.specs.List.{starts_with}
use Rattle.std.specs.Str.{IsCharBoundary, is_utf8}
use Rattle.std.specs.Str.Lossy.{utf8_valid_len}
use Rattle.std.proofs.lemmas.Bool.{and_parts, false≢true}
use Rattle.std.proofs.lemmas.Bool.Decides.{nat_tests}
use Rattle.std.proofs.lemmas.Str.{IsUtf8-past_char, IsCharBoundary-from_drop, IsUtf8-from_is_utf8, is_utf8-from_IsUtf8}
use lib.Utf8.{encode}
use Rattle.csv.specs.Reading.{is_bom, strip_bom}
use Rattle.md_value.specs.declared.fault.Fault.TheVariants.{NotUtf8}
use Rattle.imp_kind.specs.declared.kind.FileKind.{FileKind}
use Rattle.imp_kind.specs.Imports.{text_of_kind, bytes_of_kind}

-- the bytes of the byte order mark, U+FEFF in UTF-8
abbrev pub mark : List ℕ
mark = 239 ∷ 187 ∷ 191 ∷ []

is : (a b : ℕ) → nat_eq a b ≡ true → b ≡ a
is a b h = grind (arith, nat_tests)

pub after_mark : (text : List ℕ) → IsUtf8 text → starts_with nat_eq text mark ≡ true → IsCharBoundary text 3
unfolding encode
after_mark [] utf8 h = absurd (cc)
after_mark (a ∷ []) utf8 h = absurd (false≢true (and_parts (nat_eq 239 a) false h).1)
after_mark (a ∷ b ∷ []) utf8 h = absurd (false≢true (and_parts (nat_eq 187 b) false (and_parts (nat_eq 239 a) (nat_eq 187 b && false) h).1).1)
after_mark (a ∷ b ∷ c ∷ rest) utf8 h =
    let tail = and_parts (nat_eq 239 a) (nat_eq 187 b && (nat_eq 191 c && true)) h in
    let last = and_parts (nat_eq 187 b) (nat_eq 191 c && true) tail.1 in
    let first : a ≡ 239 = is 239 a tail.0 in
    let second : b ≡ 187 = is 187 b last.0 in
    let third : c ≡ 191 = is 191 c (and_parts (nat_eq 191 c) true last.1).0 in
    let cut : a ∷ b ∷ c ∷ rest ≡ encode 65279 ++ rest = rw (first, second, third) refl in
    IsCharBoundary-from_drop (a ∷ b ∷ c ∷ rest) 3 (omega arith) (IsUtf8-past_char (a ∷ b ∷ c ∷ rest) rest 65279 utf8 cut)

turned : (m a : ℕ) → nat_eq m a ≡ nat_eq a m
turned m a = grind (arith, nat_tests)

none : (p : Bool) (xs ys : List ℕ) → cond (p && false) xs ys ≡ ys
none true xs ys = refl
none false xs ys = refl

neither : (p q : Bool) (xs ys : List ℕ) → cond (p && (q && false)) xs ys ≡ ys
neither true q xs ys = none q xs ys
neither false q xs ys = refl

grouped : (p q r : Bool) → (p && (q && (r && true))) ≡ (p && q && r)
grouped true true true = refl
grouped true true false = refl
grouped true false r = refl
grouped false q r = refl

marked : (a b c : ℕ) → (nat_eq 239 a && (nat_eq 187 b && (nat_eq 191 c && true))) ≡ is_bom a b c
marked a b c = rw (turned 239 a, turned 187 b, turned 191 c) (grouped (nat_eq a 239) (nat_eq b 187) (nat_eq c 191))

stripped : (text : List ℕ) → cond (starts_with nat_eq text mark) (drop 3 text) text ≡ strip_bom text
unfolding strip_bom
stripped [] = refl
stripped (a ∷ []) = none (nat_eq 239 a) [] (a ∷ [])
stripped (a ∷ b ∷ []) = neither (nat_eq 239 a) (nat_eq 187 b) [] (a ∷ b ∷ [])
stripped (a ∷ b ∷ c ∷ rest) = ap (λ t. cond t rest (a ∷ b ∷ c ∷ rest)) (marked a b c)

-- a text that begins with the mark, without it, and one that does not
pub cut_off : (text rest : List ℕ) → true ≡ starts_with nat_eq text mark → rest ≡ drop 3 text → rest ≡ strip_bom text
cut_off text rest h same = same ∙ ap (λ b. cond b (drop 3 text) text) h ∙ stripped text

pub left_whole : (text : List ℕ) → false ≡ starts_with nat_eq text mark → text ≡ strip_bom text
left_whole text h = ap (λ b. cond b (drop 3 text) text) h ∙ stripped text

pub is_read : (kind : FileKind) (bytes : List ℕ) (offset : ℤ) → IsUtf8 bytes → bytes_of_kind kind bytes offset ≡ text_of_kind kind (strip_bom bytes) offset
is_read kind bytes offset utf8 = ap (λ b. cond b (text_of_kind kind (strip_bom bytes) offset) (Err (NotUtf8 (utf8_valid_len bytes)))) (is_utf8-from_IsUtf8 bytes utf8)

no_text : (bytes : List ℕ) (b : Bool) → is_utf8 bytes ≡ b → (IsUtf8 bytes → ⊥) → b ≡ false
no_text bytes true h other = absurd (other (IsUtf8-from_is_utf8 bytes h))
no_text bytes false h other = refl

pub is_not_read : (kind : FileKind) (bytes : List ℕ) (offset : ℤ) → (IsUtf8 bytes → ⊥) → bytes_of_kind kind bytes offset ≡ Err (NotUtf8 (utf8_valid_len bytes))
is_not_read kind bytes offset other = ap (λ b. cond b (text_of_kind kind (strip_bom bytes) offset) (Err (NotUtf8 (utf8_valid_len bytes)))) (no_text bytes (is_utf8 bytes) refl other)
