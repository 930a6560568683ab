-- The normal form of a text that is no bad path is a path: it is read again as itself.
use Rattle.std.proofs.Common.{◌≡◌, ℕ, Bool, true, false, cond, ◌||◌, List, [], ◌∷◌, length, filter, nat_eq, nat_lt, codes, refl, sym, ◌∙◌, ap, arith}
use mathlib.Core.Bool.{false≢true}
use Rattle.std.specs.List.{All, AllByRecursion, onto_first, join_with_byte, list_any, starts_with}
use Rattle.std.proofs.lemmas.Bool.Decides.{nat_tests}
use Rattle.std.proofs.lemmas.Grind.{common_steps}
use Rattle.std.proofs.lemmas.List.Elements.{All-nil, All-cons, All-head}
use Rattle.std.proofs.lemmas.List.Folds.{list_any-append}
use Rattle.std.proofs.lemmas.List.Splits.{slice_split_none, slice_split_at, join_with_byte-slice_split}
use Rattle.md_value.specs.Path.{is_slash, is_zero, is_kept, is_parent, components, normal, is_bad, IsPath}

-- no part has a `/`
abbrev IsPlain : List (List ℕ) → Type 0
IsPlain parts = AllByRecursion (λ part. All (λ b. is_slash b ≡ false) part) parts

abbrev IsKept : List (List ℕ) → Type 0
IsKept parts = AllByRecursion (λ part. is_kept part ≡ true) parts

onto_plain : (b : ℕ) (parts : List (List ℕ)) → is_slash b ≡ false → IsPlain parts → IsPlain (onto_first b parts)
onto_plain b [] differs plain = (All-cons (λ x. is_slash x ≡ false) b [] differs (All-nil (λ x. is_slash x ≡ false)), tt)
onto_plain b (part ∷ parts) differs plain = (All-cons (λ x. is_slash x ≡ false) b part differs plain.0, plain.1)

split_plain : (text : List ℕ) → IsPlain (components text)
split_plain [] = (All-nil (λ x. is_slash x ≡ false), tt)
split_plain (b ∷ text) = elim (is_slash b) as (λ t. is_slash b ≡ t → IsPlain (cond t ([] ∷ components text) (onto_first b (components text)))) [
  | true ↦ λ _. (All-nil (λ x. is_slash x ≡ false), split_plain text)
  | false ↦ λ differs. onto_plain b (components text) differs (split_plain text)
] refl

filter_plain : (parts : List (List ℕ)) → IsPlain parts → IsPlain (filter is_kept parts)
filter_plain [] plain = tt
filter_plain (part ∷ parts) plain = elim (is_kept part) as (λ t. IsPlain (cond t (part ∷ filter is_kept parts) (filter is_kept parts))) [
  | true ↦ (plain.0, filter_plain parts plain.1)
  | false ↦ filter_plain parts plain.1
]

filter_kept : (parts : List (List ℕ)) → IsKept (filter is_kept parts)
filter_kept [] = tt
filter_kept (part ∷ parts) = elim (is_kept part) as (λ t. is_kept part ≡ t → IsKept (cond t (part ∷ filter is_kept parts) (filter is_kept parts))) [
  | true ↦ λ kept. (kept, filter_kept parts)
  | false ↦ λ _. filter_kept parts
] refl

keep_all : (parts : List (List ℕ)) → IsKept parts → filter is_kept parts ≡ parts
keep_all [] kept = refl
keep_all (part ∷ parts) kept = rw (kept.0) (ap (λ ps. part ∷ ps) (keep_all parts kept.1))

-- parts without `/` that are joined by `/` are cut into themselves
split_join : (part : List ℕ) (parts : List (List ℕ)) → IsPlain (part ∷ parts) → components (join_with_byte 47 (part ∷ parts)) ≡ part ∷ parts
split_join part [] plain = slice_split_none is_slash part plain.0
split_join part (next ∷ parts) plain = slice_split_at is_slash part 47 (join_with_byte 47 (next ∷ parts)) plain.0 refl ∙ ap (λ ps. part ∷ ps) (split_join next parts plain.1)

kept_again : (parts : List (List ℕ)) → IsPlain parts → IsKept parts → filter is_kept (components (join_with_byte 47 parts)) ≡ parts
kept_again [] plain kept = refl
kept_again (part ∷ parts) plain kept = ap (filter is_kept) (split_join part parts plain) ∙ keep_all (part ∷ parts) kept

begins_so : (b : ℕ) (bs : List ℕ) (parts : List (List ℕ)) → is_slash b ≡ false → starts_with nat_eq (join_with_byte 47 ((b ∷ bs) ∷ parts)) (codes "/") ≡ false
begins_so b bs [] differs = grind (arith, nat_tests, common_steps)
begins_so b bs (next ∷ parts) differs = grind (arith, nat_tests, common_steps)

begins : (parts : List (List ℕ)) → IsPlain parts → IsKept parts → starts_with nat_eq (join_with_byte 47 parts) (codes "/") ≡ false
begins [] plain kept = refl
begins ([] ∷ parts) plain kept = absurd (false≢true kept.0)
begins ((b ∷ bs) ∷ parts) plain kept = begins_so b bs parts (All-head (λ x. is_slash x ≡ false) b bs plain.0)

any_filter : (p : List ℕ → Bool) (parts : List (List ℕ)) → list_any p parts ≡ false → list_any p (filter is_kept parts) ≡ false
any_filter p [] none = refl
any_filter p (part ∷ parts) none = elim (p part) as (λ t. p part ≡ t → t || list_any p parts ≡ false → list_any p (cond (is_kept part) (part ∷ filter is_kept parts) (filter is_kept parts)) ≡ false) [
  | true ↦ λ _ h. absurd (false≢true (sym h))
  | false ↦ λ e h. elim (is_kept part) as (λ t. list_any p (cond t (part ∷ filter is_kept parts) (filter is_kept parts)) ≡ false) [
    | true ↦ rw e (any_filter p parts h)
    | false ↦ any_filter p parts h
  ]
] refl none

no_parent : (parts : List (List ℕ)) → IsPlain parts → list_any is_parent parts ≡ false → list_any is_parent (components (join_with_byte 47 parts)) ≡ false
no_parent [] plain none = refl
no_parent (part ∷ parts) plain none = ap (list_any is_parent) (split_join part parts plain) ∙ none

-- a join has a zero where a part has
any_join : (parts : List (List ℕ)) → list_any is_zero (join_with_byte 47 parts) ≡ list_any (λ part. list_any is_zero part) parts
any_join [] = refl
any_join (part ∷ []) = or_none (list_any is_zero part)
  where
    or_none : (b : Bool) → b ≡ (b || false)
    or_none true = refl
    or_none false = refl
any_join (part ∷ next ∷ parts) = list_any-append is_zero part (47 ∷ join_with_byte 47 (next ∷ parts)) ∙ ap (λ b. list_any is_zero part || b) (any_join (next ∷ parts))

-- what fails at both of two tests
neither : (a b : Bool) → a || b ≡ false → (a ≡ false) × (b ≡ false)
neither true b h = absurd (false≢true (sym h))
neither false b h = (refl, h)

pub IsPath-normal : (text : List ℕ) → is_bad text ≡ false → IsPath (normal text)
IsPath-normal text good =
    let parts = filter is_kept (components text) in
    let plain = filter_plain (components text) (split_plain text) in
    let kept = filter_kept (components text) in
    let again : normal (normal text) ≡ normal text = ap (join_with_byte 47) (kept_again parts plain kept) in
    let third = neither (starts_with nat_eq text (codes "/") || list_any is_parent (components text) || list_any is_zero text) (nat_lt 4096 (length (normal text))) good in
    let second = neither (starts_with nat_eq text (codes "/") || list_any is_parent (components text)) (list_any is_zero text) third.0 in
    let first = neither (starts_with nat_eq text (codes "/")) (list_any is_parent (components text)) second.0 in
    let zeros : list_any (λ part. list_any is_zero part) (components text) ≡ false = sym (any_join (components text)) ∙ ap (list_any is_zero) (join_with_byte-slice_split 47 text) ∙ second.1 in
    let no_zero : list_any is_zero (normal text) ≡ false = any_join parts ∙ any_filter (λ part. list_any is_zero part) (components text) zeros in
    let no_parents : list_any is_parent (components (normal text)) ≡ false = no_parent parts plain (any_filter is_parent (components text) first.1) in
    record {
      good = rw (begins parts plain kept, no_parents, no_zero) (ap (λ bytes. nat_lt 4096 (length bytes)) again ∙ third.1);
      normal = again;
    }
