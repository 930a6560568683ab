-- The names of the attributes up to a place.
use Rattle.std.proofs.Common.{◌≡◌, ℕ, ◌+◌, true, false, List, [], ◌∷◌, ◌++◌, take, map, get_or, refl, suc, zero, arith, take_all, sym, ◌∙◌, ap, append-nil, not}
use Rattle.std.specs.Prelude.{Some, None, slice_get}
use Rattle.std.specs.Option.{unwrap_or}
use Rattle.std.proofs.lemmas.List.{take_more, map-append}
use Rattle.std.proofs.lemmas.List.Elements.{filter-append}
use Rattle.std.proofs.lemmas.Option.{slice_get_within, unwrap_or-slice_get}
use Rattle.md_value.specs.Values.{is_same}
use Rattle.md_value.specs.Attrs.{Attr, without_name, text_content}

-- the names of all attributes but the text of the whole file
abbrev names_of : List Attr → List (List ℕ)
names_of attrs = map (λ attr. attr.0) (without_name text_content attrs)

names_append : (xs ys : List Attr) → names_of (xs ++ ys) ≡ names_of xs ++ names_of ys
names_append xs ys =
    ap (λ attrs. map (λ (attr : Attr). attr.0) attrs) (filter-append (λ (attr : Attr). not (is_same attr.0 text_content)) xs ys)
    ∙ map-append (λ (attr : Attr). attr.0) (without_name text_content xs) (without_name text_content ys)

-- the names up to the next place
names_more : (attrs : List Attr) (place : ℕ) (attr : Attr) → slice_get attrs place ≡ Some attr
    → names_of (take (place + 1) attrs) ≡ names_of (take place attrs) ++ names_of (attr ∷ [])
names_more attrs place attr is =
    let found : get_or attrs place attr ≡ attr = sym (unwrap_or-slice_get attrs place attr) ∙ ap (λ o. unwrap_or o attr) is in
    ap (λ prefix. names_of prefix) (take_more attrs place attr (slice_get_within attrs place attr is) ∙ ap (λ a. take place attrs ++ a ∷ []) found)
    ∙ names_append (take place attrs) (attr ∷ [])

-- one name more is listed
pub kept : (attrs : List Attr) (place : ℕ) (attr : Attr) (found more : List (List ℕ)) → slice_get attrs place ≡ Some attr
    → is_same attr.0 text_content ≡ false → found ≡ names_of (take place attrs) → more ≡ found ++ attr.0 ∷ []
    → more ≡ names_of (take (place + 1) attrs)
kept attrs place attr found more is printed listed e =
    let one : names_of (attr ∷ []) ≡ attr.0 ∷ [] = rw printed refl in
    e ∙ ap (λ names. names ++ attr.0 ∷ []) listed ∙ sym (names_more attrs place attr is ∙ ap (λ names. names_of (take place attrs) ++ names) one)

-- the text of the whole file is left out
pub left_out : (attrs : List Attr) (place : ℕ) (attr : Attr) (found : List (List ℕ)) → slice_get attrs place ≡ Some attr
    → is_same attr.0 text_content ≡ true → found ≡ names_of (take place attrs) → found ≡ names_of (take (place + 1) attrs)
left_out attrs place attr found is content listed =
    let none : names_of (attr ∷ []) ≡ [] = rw content refl in
    listed ∙ sym (names_more attrs place attr is ∙ ap (λ names. names_of (take place attrs) ++ names) none ∙ append-nil (names_of (take place attrs)))

-- there is nothing at the place
pub past : (attrs : List Attr) (place : ℕ) → slice_get attrs place ≡ None → names_of (take place attrs) ≡ names_of (take (place + 1) attrs)
past attrs place e = ap (λ (prefix : List Attr). names_of prefix) (same attrs place e)
  where
    same : (xs : List Attr) (i : ℕ) → slice_get xs i ≡ None → take i xs ≡ take (i + 1) xs
    same [] i e = take_all i [] (omega arith) ∙ sym (take_all (i + 1) [] (omega arith))
    same (x ∷ xs) zero e = cc
    same (x ∷ xs) (suc i) e =
        let next : suc i + 1 ≡ suc (i + 1) = omega arith in
        rw next (ap (λ rest. x ∷ rest) (same xs i e))
