-- An ASCII character parts a text: the key of the whole is the keys of both parts and that character's.
use Rattle.std.proofs.Common.{◌≡◌, ℕ, ◌+◌, ◌-◌, ◌<◌, ◌≤◌, Bool, true, false, not, ◌&&◌, length, get_or, take, drop, take_all, ap₂, List, [], ◌∷◌, ◌++◌, filter, flat_map, if◌then◌else◌, cond, sym, ap, ◌∙◌, append_assoc, arith}
use Rattle.std.specs.Prelude.{encode_utf8, encode_utf8_all}
use Rattle.std.proofs.lemmas.List.{at_drop_more, drop_all}
use Rattle.std.proofs.lemmas.Str.{encodes-append}
use Rattle.std.specs.Char.{to_ascii_lowercase}
use Rattle.ucd_case.proofs.CaseFoldingLemmas.{full_fold-ascii}
use Rattle.unicode_normalization.specs.Forms.{Nfd, nfd, normalize, decomposed}
use Rattle.unicode_normalization.proofs.FormsLemmas.{normalize-ascii_boundary, normalize-nil, decomposed-passing, is_final-Nfd, quick_check-ascii, class-latin}
use Rattle.unicode_normalization.specs.Decompose.{decompose}
use Rattle.unicode_normalization.specs.Order.{is_ordered, is_reorderable}
use Rattle.unicode_normalization.proofs.OrderLemmas.{canonical_order-ordered, is_ordered-one, is_ordered-nil}
use Rattle.caseless.specs.Caseless.{default_case_fold, canonical_key}
use Rattle.caseless.proofs.CaselessLemmas.{default_case_fold-nil, default_case_fold-cons, default_case_fold-append}
use Rattle.md_text.specs.Key.{key, is_kept}
use Rattle.md_text.proofs.Ascii.{kept-ascii, lower_ascii}

nfd-first : (c : ℕ) (ys : List ℕ) → c < 128 → nfd (c ∷ ys) ≡ c ∷ nfd ys
unfolding normalize
nfd-first c ys h = decomposed-passing Nfd c ys (is_final-Nfd c (quick_check-ascii Nfd c h)) (let starter = class-latin c (omega arith) in omega arith)

nfd-parted : (xs : List ℕ) (c : ℕ) (ys : List ℕ) → c < 128 → nfd (xs ++ c ∷ ys) ≡ nfd xs ++ c ∷ nfd ys
nfd-parted xs c ys h = normalize-ascii_boundary Nfd xs c ys h ∙ ap (λ l. nfd xs ++ l) (nfd-first c ys h)

fold-parted : (xs : List ℕ) (c : ℕ) (ys : List ℕ) → c < 128 → default_case_fold (xs ++ c ∷ ys) ≡ default_case_fold xs ++ to_ascii_lowercase c ∷ default_case_fold ys
fold-parted xs c ys h =
    default_case_fold-append xs (c ∷ ys) ∙ ap (λ l. default_case_fold xs ++ l) (default_case_fold-cons c ys ∙ ap (λ l. l ++ default_case_fold ys) (full_fold-ascii c h))

canonical-parted : (xs : List ℕ) (c : ℕ) (ys : List ℕ) → c < 128 → canonical_key (xs ++ c ∷ ys) ≡ canonical_key xs ++ to_ascii_lowercase c ∷ canonical_key ys
canonical-parted xs c ys h =
    ap (λ l. nfd (default_case_fold l)) (nfd-parted xs c ys h) ∙ ap nfd (fold-parted (nfd xs) c (nfd ys) h)
    ∙ nfd-parted (default_case_fold (nfd xs)) (to_ascii_lowercase c) (default_case_fold (nfd ys)) (lower_ascii c h)

kept-parted : (xs : List ℕ) (c : ℕ) (ys : List ℕ) → c < 128 → filter is_kept (xs ++ c ∷ ys) ≡ filter is_kept xs ++ c ∷ filter is_kept ys
kept-parted [] c ys h = ap (λ kept. cond kept (c ∷ filter is_kept ys) (filter is_kept ys)) (kept-ascii c h)
kept-parted (x ∷ xs) c ys h = first (is_kept x) (filter is_kept (xs ++ c ∷ ys)) (filter is_kept xs) (kept-parted xs c ys h)
  where
    first : (kept : Bool) (whole before : List ℕ) → whole ≡ before ++ c ∷ filter is_kept ys → cond kept (x ∷ whole) whole ≡ cond kept (x ∷ before) before ++ c ∷ filter is_kept ys
    first true whole before same = ap (λ l. x ∷ l) same
    first false whole before same = same

pub key-parted : (fold marks : Bool) (xs : List ℕ) (c : ℕ) (ys : List ℕ) → c < 128 → key fold marks (xs ++ c ∷ ys) ≡ key fold marks xs ++ (if fold then to_ascii_lowercase c else c) ∷ key fold marks ys
unfolding key
key-parted false false xs c ys h = nfd-parted xs c ys h
key-parted true false xs c ys h = canonical-parted xs c ys h
key-parted false true xs c ys h = ap (filter is_kept) (nfd-parted xs c ys h) ∙ kept-parted (nfd xs) c (nfd ys) h
key-parted true true xs c ys h =
    ap (filter is_kept) (canonical-parted xs c ys h) ∙ kept-parted (canonical_key xs) (to_ascii_lowercase c) (canonical_key ys) (lower_ascii c h)

nfd-nil : nfd [] ≡ []
nfd-nil = normalize-nil Nfd

canonical-nil : canonical_key [] ≡ []
canonical-nil = ap (λ l. nfd (default_case_fold l)) nfd-nil ∙ ap nfd default_case_fold-nil ∙ nfd-nil

pub key-nil : (fold marks : Bool) → key fold marks [] ≡ []
unfolding key
key-nil false false = nfd-nil
key-nil true false = canonical-nil
key-nil false true = ap (filter is_kept) nfd-nil
key-nil true true = ap (filter is_kept) canonical-nil

-- ---- one character more, where what is there and the key of the characters since the last one of ASCII lead, whatever
-- follows, to the key of the text so far

abbrev Leads : (fold marks : Bool) → (made others text : List ℕ) → Type 0
Leads fold marks made others text = (rest : List ℕ) → made ++ encode_utf8_all (key fold marks (others ++ rest)) ≡ encode_utf8_all (key fold marks (text ++ rest))

pub other_more : (fold marks : Bool) (made others text : List ℕ) (c : ℕ) → Leads fold marks made others text → Leads fold marks made (others ++ c ∷ []) (text ++ c ∷ [])
other_more fold marks made others text c leads rest =
    ap (λ l. made ++ encode_utf8_all (key fold marks l)) (append_assoc others (c ∷ []) rest) ∙ leads (c ∷ rest) ∙ ap (λ l. encode_utf8_all (key fold marks l)) (sym (append_assoc text (c ∷ []) rest))

pub ascii_more : (fold marks : Bool) (made others text : List ℕ) (c : ℕ) → c < 128 → Leads fold marks made others text
    → Leads fold marks ((made ++ encode_utf8_all (key fold marks others)) ++ encode_utf8 (if fold then to_ascii_lowercase c else c)) [] (text ++ c ∷ [])
ascii_more fold marks made others text c h leads rest =
    let d = if fold then to_ascii_lowercase c else c in
    let before = encode_utf8_all (key fold marks others) in
    let after = encode_utf8_all (key fold marks rest) in
    append_assoc (made ++ before) (encode_utf8 d) after ∙ append_assoc made before (encode_utf8 d ++ after)
    ∙ ap (λ l. made ++ l) (sym (ap encode_utf8_all (key-parted fold marks others c rest h) ∙ encodes-append (key fold marks others) (d ∷ key fold marks rest)))
    ∙ leads (c ∷ rest) ∙ ap (λ l. encode_utf8_all (key fold marks l)) (sym (append_assoc text (c ∷ []) rest))

-- the decomposed characters are the canonical decomposition where they are in order
pub nfd_ordered : (made cs : List ℕ) → made ≡ flat_map (decompose Nfd) cs → true ≡ is_ordered made → made ≡ nfd cs
unfolding normalize decomposed
nfd_ordered made cs is ordered = is ∙ sym (canonical_order-ordered (flat_map (decompose Nfd) cs) (ap is_ordered (sym is) ∙ sym ordered))

-- ---- one neighbour after the other

neighbours : (before after : ℕ) (rest : List ℕ) (i : ℕ) → i < length rest → after ≡ get_or rest i after → is_ordered (before ∷ drop i rest) ≡ (not (is_reorderable before after) && is_ordered (after ∷ drop (i + 1) rest))
unfolding is_ordered
neighbours before after rest i lt is =
    at_drop_more (λ cs. is_ordered (before ∷ cs)) rest i after lt ∙ ap (λ c. is_ordered (before ∷ c ∷ drop (i + 1) rest)) (sym is)

pub ordered_more : (before after : ℕ) (rest : List ℕ) (i : ℕ) → i < length rest → after ≡ get_or rest i after → false ≡ is_reorderable before after → is_ordered (after ∷ drop (i + 1) rest) ≡ is_ordered (before ∷ drop i rest)
ordered_more before after rest i lt is stays = sym (neighbours before after rest i lt is ∙ ap (λ b. not b && is_ordered (after ∷ drop (i + 1) rest)) (sym stays))

pub not_ordered : (before after : ℕ) (rest : List ℕ) (i : ℕ) → i < length rest → after ≡ get_or rest i after → true ≡ is_reorderable before after → is_ordered (before ∷ drop i rest) ≡ false
not_ordered before after rest i lt is moves = neighbours before after rest i lt is ∙ ap (λ b. not b && is_ordered (after ∷ drop (i + 1) rest)) (sym moves)

pub ordered_end : (before : ℕ) (rest : List ℕ) (i : ℕ) → length rest ≤ i → is_ordered (before ∷ drop i rest) ≡ true
ordered_end before rest i ge = ap (λ cs. is_ordered (before ∷ cs)) (drop_all i rest ge) ∙ is_ordered-one before

pub ordered_none : (cs : List ℕ) → length cs < 1 → is_ordered cs ≡ true
ordered_none [] none = is_ordered-nil
ordered_none (c ∷ cs) none = absurd (omega arith)

pub ordered_first : (cs : List ℕ) (first : ℕ) → 1 ≤ length cs → first ≡ get_or cs 0 first → is_ordered (first ∷ take (length cs - 1) (drop 1 cs)) ≡ is_ordered cs
ordered_first [] first some is = absurd (omega arith)
ordered_first (c ∷ cs) first some is = ap₂ (λ x xs. is_ordered (x ∷ xs)) is (take_all (length (c ∷ cs) - 1) cs (omega arith))
