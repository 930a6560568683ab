-- The key by which a text compares, over its characters.
use Rattle.std.specs.Prelude.{ℕ, Bool, true, false, not, List, filter, if◌then◌else◌}
use Rattle.caseless.specs.Caseless.{canonical_key}
use Rattle.unicode_normalization.specs.Forms.{nfd}
use Rattle.ucd_category.specs.GeneralCategory.{general_category}
use Rattle.ucd_category.specs.declared.GeneralCategory.{GeneralCategory}
use Rattle.ucd_category.specs.declared.GeneralCategory.TheVariants.{NonspacingMark}

abbrev pub is_nonspacing : GeneralCategory → Bool
is_nonspacing NonspacingMark = true
is_nonspacing _ = false

-- a character that a key keeps where marks are left out
abbrev pub is_kept : ℕ → Bool
is_kept c = not (is_nonspacing (general_category c))

-- `canonical_key` is toNFD(toCasefold(toNFD(s))), as definition D145 of the Unicode Standard compares texts
unfoldable pub key : (fold marks : Bool) → List ℕ → List ℕ
key fold marks s =
    let decomposed = if fold then canonical_key s else nfd s in
    if marks then filter is_kept decomposed else decomposed
