-- The bytes of a character, escaped.
use Rattle.std.proofs.Common.{◌≡◌, ℕ, suc, ◌<◌, Bool, false, ◌||◌, ◌==◌, List, [], ◌∷◌, ◌++◌, length, get_or, refl, sym, ◌∙◌, ap, arith, append_assoc, append-nil, map, map-id}
use Rattle.std.specs.List.{flat_map}
use Rattle.std.specs.Prelude.{IsUtf8, chars, encode_utf8, encode_utf8_all}
use Rattle.std.proofs.lemmas.Bool.Decides.{nat_tests}
use Rattle.std.proofs.lemmas.Grind.{flat_map-append}
use Rattle.std.proofs.lemmas.List.Concat.{flat_map_single}
use Rattle.std.proofs.lemmas.Str.{inside_one, encodes-append, encodes-chars}
use Rattle.md_file_text.specs.Paths.{escape}
use Rattle.md_file_text.specs.Attributes.{escape_quoted}

-- whether a byte has an escape in a path
abbrev pub is_special : ℕ → Bool
is_special b = (b == 92) || (b == 9) || (b == 10) || (b == 13)

plain_one : (b : ℕ) → is_special b ≡ false → escape b ≡ b ∷ []
plain_one b h = grind (arith, nat_tests)

-- two escapes that agree on each byte
same_all : (f g : ℕ → List ℕ) (bs : List ℕ) → ((k : ℕ) → k < length bs → f (get_or bs k 0) ≡ g (get_or bs k 0)) → flat_map f bs ≡ flat_map g bs
same_all f g [] h = refl
same_all f g (b ∷ bs) h =
    let first : f b ≡ g b = h 0 (omega arith) in
    rw first (ap (λ rest. g b ++ rest) (same_all f g bs (λ k l. h (suc k) (omega (arith, l)))))

-- two escapes that agree on each byte of a character: one below 128 is the character
same_char : (f g : ℕ → List ℕ) (c : ℕ) → ((b : ℕ) → (b < 128 → c ≡ b) → f b ≡ g b) → flat_map f (encode_utf8 c) ≡ flat_map g (encode_utf8 c)
same_char f g c h =
    same_all f g (encode_utf8 c)
    (λ k l. h (get_or (encode_utf8 c) k 0) (λ b. inside_one c [] (encode_utf8 c) k (sym (append-nil (encode_utf8 c))) l b))

byte_plain : (c b : ℕ) → is_special c ≡ false → (b < 128 → c ≡ b) → is_special b ≡ false
byte_plain c b h e = grind (arith, nat_tests)

-- a character that has no escape
pub plain_char : (c : ℕ) → is_special c ≡ false → flat_map escape (encode_utf8 c) ≡ encode_utf8 c
plain_char c h =
    same_char escape (λ b. b ∷ []) c (λ b e. plain_one b (byte_plain c b h e))
    ∙ flat_map_single (λ b. b) (encode_utf8 c)
    ∙ map-id (encode_utf8 c)

byte_unquoted : (c b : ℕ) → (c == 34) ≡ false → (b < 128 → c ≡ b) → escape_quoted b ≡ escape b
byte_unquoted c b h e = grind (arith, nat_tests)

-- a character other than a double quote
pub unquoted_char : (c : ℕ) → (c == 34) ≡ false → flat_map escape_quoted (encode_utf8 c) ≡ flat_map escape (encode_utf8 c)
unquoted_char c h = same_char escape_quoted escape c (λ b e. byte_unquoted c b h e)

-- the escapes of some characters, with those of one more
pub escaped_more : (f : ℕ → List ℕ) (old cs : List ℕ) (c : ℕ)
    → (old ++ flat_map f (encode_utf8_all cs)) ++ flat_map f (encode_utf8 c) ≡ old ++ flat_map f (encode_utf8_all (cs ++ c ∷ []))
escaped_more f old cs c =
    let bytes : encode_utf8_all (cs ++ c ∷ []) ≡ encode_utf8_all cs ++ encode_utf8 c =
    encodes-append cs (c ∷ []) ∙ ap (λ bs. encode_utf8_all cs ++ bs) (append-nil (encode_utf8 c))
    in append_assoc old (flat_map f (encode_utf8_all cs)) (flat_map f (encode_utf8 c))
    ∙ ap (λ bs. old ++ bs) (sym (flat_map-append f (encode_utf8_all cs) (encode_utf8 c)) ∙ ap (λ bs. flat_map f bs) (sym bytes))

-- the escapes of all characters of a text are those of its bytes
pub escaped_all : (f : ℕ → List ℕ) (old text bytes cs : List ℕ) → IsUtf8 text → text ≡ bytes → map (λ c. c) cs ≡ chars text
    → old ++ flat_map f (encode_utf8_all cs) ≡ old ++ flat_map f bytes
escaped_all f old text bytes cs utf8 same all =
    ap (λ bs. old ++ flat_map f bs) (ap (λ xs. encode_utf8_all xs) (sym (map-id cs) ∙ all) ∙ encodes-chars text utf8 ∙ same)
