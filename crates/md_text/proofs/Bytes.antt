-- A pattern matches the bytes of a text as it matches the characters.
use Rattle.std.proofs.Common.{◌≡◌, ℕ, ◌+◌, ◌≤◌, ◌<◌, ◌/◌, get_or, Bool, true, false, ◌&&◌, ◌||◌, nat_eq, List, [], ◌∷◌, ◌++◌, length, drop, map, bytes_eq, ⊎_elim, inl, inr, ◌⊎◌, Option, refl, sym, ap, ap₂, subst, ◌∙◌, append_assoc, append-nil, arith}
use Rattle.std.specs.Prelude.{encode_utf8_all as encodes, encode_utf8 as encode}
use Rattle.std.specs.List.{starts_with}
use Rattle.std.proofs.str.Laws.{one, two, three, four, order}
use lib.Utf8.{next}
use Rattle.std.proofs.lemmas.Bool.{cases_Bool, false≢true, false_from_ne_true}
use Rattle.std.proofs.lemmas.Bool.Decides.{Decides-like, Decides-eqb, same_from_decides}
use Rattle.std.proofs.lemmas.List.{drop_at, get_or-map, length-map}
use Rattle.std.proofs.lemmas.Slice.Eq.{bytes_eq-Decides, starts_is}
use Rattle.std.proofs.lemmas.Str.{cons_from_encodes, encodes_same, encodes-append}
use Rattle.md_text.specs.Scan.{first_after}
use Rattle.md_text.specs.Wild.{some_end, wild}
use Rattle.md_text.proofs.Scans.{found, scan-step, starts_with-append, starts_with-not}

-- ---- the first byte of a character is none that follows one

abbrev Follows : ℕ → Type 0
Follows b = (128 ≤ b) × (b < 192)

data Spelling (bytes : List ℕ) : Type 0 where
  of1 : (a : ℕ) → (Follows a → a < a) → bytes ≡ a ∷ [] → Spelling bytes
  of2 : (a b : ℕ) → (Follows a → a < a) → Follows b → bytes ≡ a ∷ b ∷ [] → Spelling bytes
  of3 : (a b c : ℕ) → (Follows a → a < a) → Follows b → Follows c → bytes ≡ a ∷ b ∷ c ∷ [] → Spelling bytes
  of4 : (a b c d : ℕ) → (Follows a → a < a) → Follows b → Follows c → Follows d → bytes ≡ a ∷ b ∷ c ∷ d ∷ [] → Spelling bytes

follows : (x : ℕ) → Follows (next x)
follows x = (omega arith, omega arith)

spelling : (c : ℕ) → Spelling (encode c)
spelling c = by (order c 128) (order c 2048) (order c 65536)
  where
    by : (c < 128) ⊎ (128 ≤ c) → (c < 2048) ⊎ (2048 ≤ c) → (c < 65536) ⊎ (65536 ≤ c) → Spelling (encode c)
    by (inl h) _ _ = of1 c (λ f. omega (arith, f.0)) (one c h)
    by (inr l) (inl h) _ = of2 _ _ (λ f. omega (arith, f.1)) (follows c) (two c l h)
    by (inr _) (inr l) (inl h) = of3 _ _ _ (λ f. omega (arith, f.1)) (follows (c / 64)) (follows c) (three c l h)
    by (inr _) (inr _) (inr l) = of4 _ _ _ _ (λ f. omega (arith, f.1)) (follows (c / 4096)) (follows (c / 64)) (follows c) (four c l)

or_then : (x y : Bool) → (x ≡ true → y ≡ true) → (x || y) ≡ y
or_then true y h = sym (h refl)
or_then false y h = refl

-- ---- a test that no end passes where it begins with a following byte, but one that a shorter end passes too

abbrev Skips : (List ℕ → Bool) → Type 0
Skips test = (b : ℕ) → Follows b → (bytes : List ℕ) → some_end test (b ∷ bytes) ≡ some_end test bytes

not_first : (c b : ℕ) (more bytes rest : List ℕ) → Spelling (encode c) → Follows b → b ∷ bytes ≡ (encode c ++ more) ++ rest → b < b
not_first c b more bytes rest (of1 a none is) f e =
    let same : b ≡ a = ap (λ l. get_or l 0 0) (e ∙ ap (λ l. (l ++ more) ++ rest) is) in omega (arith, none (subst Follows same f))
not_first c b more bytes rest (of2 a _ none _ is) f e =
    let same : b ≡ a = ap (λ l. get_or l 0 0) (e ∙ ap (λ l. (l ++ more) ++ rest) is) in omega (arith, none (subst Follows same f))
not_first c b more bytes rest (of3 a _ _ none _ _ is) f e =
    let same : b ≡ a = ap (λ l. get_or l 0 0) (e ∙ ap (λ l. (l ++ more) ++ rest) is) in omega (arith, none (subst Follows same f))
not_first c b more bytes rest (of4 a _ _ _ none _ _ _ is) f e =
    let same : b ≡ a = ap (λ l. get_or l 0 0) (e ∙ ap (λ l. (l ++ more) ++ rest) is) in omega (arith, none (subst Follows same f))

not_begun : (c b : ℕ) (cs bytes : List ℕ) → Follows b → starts_with nat_eq (b ∷ bytes) (encodes (c ∷ cs)) ≡ false
not_begun c b cs bytes f =
    starts_with-not (encodes (c ∷ cs)) (b ∷ bytes) (λ rest e. let below = not_first c b (encodes cs) bytes rest (spelling c) f e in omega arith)

not_itself : (c b : ℕ) (cs bytes : List ℕ) → Follows b → bytes_eq (b ∷ bytes) (encodes (c ∷ cs)) ≡ false
not_itself c b cs bytes f =
    false_from_ne_true _ (λ yes. let below = not_first c b (encodes cs) bytes [] (spelling c) f ((bytes_eq-Decides (b ∷ bytes) (encodes (c ∷ cs))).0 yes ∙ sym (append-nil _)) in omega arith)

-- an end of an end is an end
some_end-twice : (test : List ℕ → Bool) (bytes : List ℕ) → some_end test bytes ≡ true → some_end (some_end test) bytes ≡ true
some_end-twice test [] h = h
some_end-twice test (b ∷ bytes) h = ap (λ x. x || some_end (some_end test) bytes) h

wild-skips : (p : List ℕ) (ps : List (List ℕ)) → Skips (wild (map encodes (p ∷ ps)))
unfolding wild
wild-skips [] [] b f bytes = refl
wild-skips (c ∷ cs) [] b f bytes = ap (λ x. x || some_end (wild (map encodes ((c ∷ cs) ∷ []))) bytes) (not_itself c b cs bytes f)
wild-skips [] (q ∷ qs) b f bytes =
    let test = wild (map encodes (q ∷ qs)) in
    ap (λ x. x || some_end (some_end test) bytes) (wild-skips q qs b f bytes) ∙ or_then (some_end test bytes) (some_end (some_end test) bytes) (some_end-twice test bytes)
wild-skips (c ∷ cs) (q ∷ qs) b f bytes =
    let test = wild (map encodes (q ∷ qs)) in
    ap (λ x. (x && some_end test (drop (length (encodes (c ∷ cs))) (b ∷ bytes))) || some_end (wild (map encodes ((c ∷ cs) ∷ q ∷ qs))) bytes) (not_begun c b cs bytes f)

-- ---- the ends of the bytes that count are the bytes of an end of the text

past_char : (test : List ℕ → Bool) (bytes rest : List ℕ) → Skips test → Spelling bytes → some_end test (bytes ++ rest) ≡ (test (bytes ++ rest) || some_end test rest)
past_char test bytes rest skips (of1 a _ is) = rw is refl
past_char test bytes rest skips (of2 a b _ f is) = rw is (ap (λ x. test (a ∷ b ∷ rest) || x) (skips b f rest))
past_char test bytes rest skips (of3 a b c _ f g is) = rw is (ap (λ x. test (a ∷ b ∷ c ∷ rest) || x) (skips b f (c ∷ rest) ∙ skips c g rest))
past_char test bytes rest skips (of4 a b c d _ f g h is) = rw is (ap (λ x. test (a ∷ b ∷ c ∷ d ∷ rest) || x) (skips b f (c ∷ d ∷ rest) ∙ skips c g (d ∷ rest) ∙ skips d h rest))

some_end-encodes : (of_bytes of_text : List ℕ → Bool) → Skips of_bytes → ((s : List ℕ) → of_bytes (encodes s) ≡ of_text s) → (s : List ℕ) → some_end of_bytes (encodes s) ≡ some_end of_text s
some_end-encodes of_bytes of_text skips same [] = same []
some_end-encodes of_bytes of_text skips same (c ∷ cs) =
    past_char of_bytes (encode c) (encodes cs) skips (spelling c) ∙ ap₂ (λ x y. x || y) (same (c ∷ cs)) (some_end-encodes of_bytes of_text skips same cs)

-- ---- the pieces one by one

prefix_from_encodes : (p s rest : List ℕ) → encodes s ≡ encodes p ++ rest → (after : List ℕ) × (s ≡ p ++ after)
prefix_from_encodes [] s rest e = (s, refl)
prefix_from_encodes (c ∷ p) s rest e =
    let first = cons_from_encodes s (encodes p ++ rest) c (e ∙ append_assoc (encode c) (encodes p) rest) in
    let later = prefix_from_encodes p first.0 rest first.2 in
    (later.0, first.1 ∙ ap (λ l. c ∷ l) later.1)

begins-encodes : (of_bytes of_text : List ℕ → Bool) → ((s : List ℕ) → of_bytes (encodes s) ≡ of_text s) → (p s : List ℕ) → (starts_with nat_eq (encodes s) (encodes p) && of_bytes (drop (length (encodes p)) (encodes s))) ≡ (starts_with nat_eq s p && of_text (drop (length p) s))
begins-encodes of_bytes of_text same p s = ⊎_elim yes no (cases_Bool (starts_with nat_eq s p))
  where
    yes : starts_with nat_eq s p ≡ true → (starts_with nat_eq (encodes s) (encodes p) && of_bytes (drop (length (encodes p)) (encodes s))) ≡ (starts_with nat_eq s p && of_text (drop (length p) s))
    yes h =
        let after = drop (length p) s in
        let is : encodes s ≡ encodes p ++ encodes after = ap encodes ((starts_is Decides-eqb s p _ refl).0 h) ∙ encodes-append p after in
        ap (λ x. x && of_bytes (drop (length (encodes p)) (encodes s))) (starts_with-append (encodes p) (encodes s) (encodes after) is)
        ∙ ap of_bytes (ap (drop (length (encodes p))) is ∙ drop_at (encodes p) (encodes after) (length (encodes p)) refl)
        ∙ same after ∙ sym (ap (λ x. x && of_text after) h)

    no : starts_with nat_eq s p ≡ false → (starts_with nat_eq (encodes s) (encodes p) && of_bytes (drop (length (encodes p)) (encodes s))) ≡ (starts_with nat_eq s p && of_text (drop (length p) s))
    no h =
        let none = starts_with-not (encodes p) (encodes s) (λ rest e. let w = prefix_from_encodes p s rest e in false≢true (sym h ∙ starts_with-append p s w.0 w.1)) in
        ap (λ x. x && of_bytes (drop (length (encodes p)) (encodes s))) none ∙ sym (ap (λ x. x && of_text (drop (length p) s)) h)

bytes_eq-encodes : (s p : List ℕ) → bytes_eq (encodes s) (encodes p) ≡ bytes_eq s p
bytes_eq-encodes s p = same_from_decides {P = s ≡ p} _ _ (Decides-like {P = encodes s ≡ encodes p} {Q = s ≡ p} _ (encodes_same s p) (ap encodes) (bytes_eq-Decides (encodes s) (encodes p))) (bytes_eq-Decides s p)

pub wild-encodes : (pieces : List (List ℕ)) (s : List ℕ) → wild (map encodes pieces) (encodes s) ≡ wild pieces s
unfolding wild
wild-encodes [] s = refl
wild-encodes (p ∷ []) s = bytes_eq-encodes s p
wild-encodes (p ∷ q ∷ qs) s =
    begins-encodes (some_end (wild (map encodes (q ∷ qs)))) (some_end (wild (q ∷ qs))) (some_end-encodes (wild (map encodes (q ∷ qs))) (wild (q ∷ qs)) (wild-skips q qs) (wild-encodes (q ∷ qs))) p s

pub scan-step-encodes : (middle : List (List ℕ)) (i : ℕ) (last rest item piece : List ℕ) (after : Option (List ℕ)) → i < length middle → item ≡ get_or middle i item → piece ≡ encodes item → after ≡ first_after piece rest → found (some_end (wild (drop (i + 1) (map encodes middle) ++ last ∷ []))) after ≡ some_end (wild (drop i (map encodes middle) ++ last ∷ [])) rest
scan-step-encodes middle i last rest item piece after lt is same found_is =
    scan-step (map encodes middle) i last rest (encodes item) piece after (omega (arith, length-map middle encodes)) (ap encodes is ∙ sym (get_or-map encodes middle i item (encodes item) lt)) same found_is
