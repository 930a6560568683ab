-- The key of an ASCII text.
use Rattle.std.proofs.Common.{◌≡◌, ℕ, zero, suc, ◌<◌, Bool, true, false, not, List, [], ◌∷◌, chars, map, filter, All, IsAscii, sym, if◌then◌else◌, refl, ap, ap₂, cond, ◌∙◌, arith, suc-le-suc, zero-le}
use Rattle.std.specs.Char.{to_ascii_lowercase}
use Rattle.std.proofs.lemmas.Bool.Decides.{nat_tests}
use Rattle.std.proofs.lemmas.Str.{chars-IsAscii}
use Rattle.std.proofs.lemmas.Str.Ascii.{IsAscii-map, lowercase_ascii}
use Rattle.std.proofs.lemmas.List.{get_or_default}
use Rattle.ucd_table.proofs.Computing.{tables}
use Rattle.ucd_table.proofs.Facts.{Stepped-below}
use Rattle.ucd_category.specs.GeneralCategory.{general_category}
use Rattle.ucd_category.proofs.GeneralCategoryLemmas.{general_category_stepped}
use Rattle.unicode_normalization.specs.Forms.{Nfd}
use Rattle.unicode_normalization.proofs.FormsLemmas.{normalize-ascii}
use Rattle.caseless.specs.Caseless.{canonical_key}
use Rattle.caseless.proofs.CaselessLemmas.{canonical_key-ascii, default_case_fold-ascii}
use Rattle.md_text.specs.Key.{key, is_kept, is_nonspacing}

pub kept-ascii : (c : ℕ) → c < 128 → is_kept c ≡ true
unfolding tables general_category_stepped
kept-ascii c h =
    Stepped-below general_category general_category_stepped (λ x category. not (is_nonspacing category)) 128 refl c h

filter-ascii : (cs : List ℕ) → All (λ c. c < 128) cs → filter is_kept cs ≡ cs
filter-ascii [] all = refl
filter-ascii (c ∷ cs) all =
    ap₂ (λ kept rest. cond kept (c ∷ rest) rest) (kept-ascii c (all zero 0 (suc-le-suc zero-le))) (filter-ascii cs (λ k d lt. all (suc k) d (suc-le-suc lt)))

pub lower_ascii : (c : ℕ) → c < 128 → to_ascii_lowercase c < 128
lower_ascii c h = grind (arith, nat_tests)

filter-lowered : (cs : List ℕ) → All (λ c. c < 128) cs → filter is_kept (map to_ascii_lowercase cs) ≡ map to_ascii_lowercase cs
filter-lowered [] all = refl
filter-lowered (c ∷ cs) all =
    ap₂ (λ kept rest. cond kept (to_ascii_lowercase c ∷ rest) rest) (kept-ascii _ (lower_ascii c (all zero 0 (suc-le-suc zero-le)))) (filter-lowered cs (λ k d lt. all (suc k) d (suc-le-suc lt)))

lowered : (cs : List ℕ) → All (λ c. c < 128) cs → canonical_key cs ≡ map to_ascii_lowercase cs
lowered cs all = canonical_key-ascii cs all ∙ default_case_fold-ascii cs all

pub key-ascii : (fold marks : Bool) (cs : List ℕ) → All (λ c. c < 128) cs → key fold marks cs ≡ (if fold then map to_ascii_lowercase cs else cs)
unfolding key
key-ascii false false cs all = normalize-ascii Nfd cs all
key-ascii true false cs all = lowered cs all
key-ascii false true cs all = ap (filter is_kept) (normalize-ascii Nfd cs all) ∙ filter-ascii cs all
key-ascii true true cs all = ap (filter is_kept) (lowered cs all) ∙ filter-lowered cs all

pub All-IsAscii : (bs : List ℕ) → IsAscii bs → All (λ c. c < 128) bs
All-IsAscii bs ascii = λ k d lt. let same = get_or_default bs k d 0 lt in let below = ascii k in omega arith

pub chars-key-ascii : (fold marks : Bool) (text : List ℕ) → IsAscii text → key fold marks (chars text) ≡ (if fold then map to_ascii_lowercase text else text)
chars-key-ascii fold marks text ascii = ap (key fold marks) (chars-IsAscii text ascii) ∙ key-ascii fold marks text (All-IsAscii text ascii)

pub own-key : (fold marks : Bool) (text : List ℕ) → fold ≡ false → IsAscii text → key fold marks (chars text) ≡ chars text
own-key fold marks text is ascii =
    chars-key-ascii fold marks text ascii ∙ ap (λ b. cond b (map to_ascii_lowercase text) text) is ∙ sym (chars-IsAscii text ascii)

pub lowered-key : (fold marks : Bool) (text made : List ℕ) → fold ≡ true → IsAscii text → made ≡ map to_ascii_lowercase text → chars made ≡ key fold marks (chars text)
lowered-key fold marks text made folds ascii is =
    ap chars is ∙ chars-IsAscii _ (IsAscii-map to_ascii_lowercase text lowercase_ascii ascii)
    ∙ sym (chars-key-ascii fold marks text ascii ∙ ap (λ b. cond b (map to_ascii_lowercase text) text) folds)
