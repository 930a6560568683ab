-- Characters and the bytes that spell them.
use Rattle.std.proofs.Common.{◌≡◌, ℕ, Bool, true, false, ◌<◌, ◌&&◌, cond, List, [], ◌∷◌, ◌++◌, refl, sym, ap, ◌∙◌, chars, encode_utf8_all, IsUtf8, arith, append-nil}
use Rattle.std.specs.Char.{is_ascii, encode_utf8}
use Rattle.std.specs.List.{list_all}
use Rattle.std.proofs.Math.Utf8.{scalar, scalars}
use Rattle.std.proofs.lemmas.Str.{chars-nil, chars-append, chars-encodes, encodes-append, encode_ascii}
use Rattle.md_value.specs.Name.{is_name_part}
use Rattle.md_expr_lex.specs.Prefix.{prefix}

-- a character of a name is ASCII
small : (c : ℕ) → is_name_part c ≡ true → c < 128
small c h = grind (arith, h)

-- what begins with ASCII
one_more : (c : ℕ) (cs : List ℕ) → c < 128 → encode_utf8_all cs ≡ cs → encode_utf8_all (c ∷ cs) ≡ c ∷ cs
one_more c cs h e = encodes-append (c ∷ []) cs ∙ ap (λ l. l ++ encode_utf8_all cs) (append-nil (encode_utf8 c) ∙ encode_ascii c h) ∙ ap (λ l. c ∷ l) e

abbrev kept : ℕ → List ℕ × List ℕ → List ℕ → Bool → List ℕ × List ℕ
kept c x cs r = cond r (c ∷ x.0, x.1) ([], c ∷ cs)

kept_ascii : (c : ℕ) (x : List ℕ × List ℕ) (cs : List ℕ) (r : Bool) → is_name_part c ≡ r → encode_utf8_all x.0 ≡ x.0 → encode_utf8_all (kept c x cs r).0 ≡ (kept c x cs r).0
kept_ascii c x cs true h e = one_more c x.0 (small c h) e
kept_ascii c x cs false h e = refl

pub encodes_word : (text : List ℕ) → encode_utf8_all (prefix is_name_part text).0 ≡ (prefix is_name_part text).0
encodes_word [] = refl
encodes_word (c ∷ cs) = kept_ascii c (prefix is_name_part cs) cs (is_name_part c) refl (encodes_word cs)

pub encodes_ascii : (cs : List ℕ) → list_all is_ascii cs ≡ true → encode_utf8_all cs ≡ cs
encodes_ascii [] h = refl
encodes_ascii (c ∷ cs) h = go (is_ascii c) refl h (encodes_ascii cs)
  where
    go : (r : Bool) → is_ascii c ≡ r → (r && list_all is_ascii cs) ≡ true → (list_all is_ascii cs ≡ true → encode_utf8_all cs ≡ cs) → encode_utf8_all (c ∷ cs) ≡ c ∷ cs
    go true e f more = one_more c cs (grind (arith, e)) (more f)
    go false e f more = cc

pub pushed : (old new : List ℕ) (c : ℕ) → IsUtf8 old → scalar c ≡ true → new ≡ old ++ encode_utf8 c → chars new ≡ chars old ++ c ∷ []
pushed old new c utf8 is e =
    let one : scalars (c ∷ []) ≡ true = ap (λ b. b && true) is in
    ap chars e ∙ chars-append old (encode_utf8 c) utf8 ∙ ap (λ l. chars old ++ l) (ap chars (sym (append-nil (encode_utf8 c))) ∙ chars-encodes (c ∷ []) one)

pub no_characters : (text : List ℕ) → text ≡ [] → chars text ≡ []
no_characters text e = ap chars e ∙ chars-nil
