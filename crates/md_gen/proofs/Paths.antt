-- The paths of the files that are made are paths, and distinct.
use Rattle.std.proofs.Common.{◌≡◌, ◌≢◌, ℕ, ◌^◌, ◌<◌, ◌≤◌, Bool, true, false, ◌||◌, ◌==◌, List, [], ◌∷◌, ◌++◌, length, drop, refl, sym, ◌∙◌, ap, arith, nat_lt, length-append, filter}
use mathlib.Core.Bool.{false≢true}
use Rattle.std.specs.Int.{IsInRange}
use Rattle.std.specs.Fmt.{decimal}
use Rattle.std.specs.Str.Parse.{AllDigits}
use Rattle.std.specs.List.{All, join_with_byte, list_any, onto_first, slice_split}
use Rattle.std.proofs.lemmas.Bool.Decides.{nat_tests}
use Rattle.std.proofs.lemmas.Fmt.{decimal_is_IsNumeral, decimal_injective, length-decimal-le}
use Rattle.std.proofs.lemmas.List.Elements.{All-nil, All-cons}
use Rattle.std.proofs.lemmas.List.Folds.{list_any-append}
use Rattle.std.proofs.lemmas.List.Splits.{slice_split_none, slice_split_at}
use Rattle.std.proofs.lemmas.Str.Parse.{digit_from_value}
use Rattle.md_value.specs.Path.{is_slash, is_zero, is_kept, is_parent, components, normal, IsPath}
use Rattle.md_gen.specs.declared.kind.Kind.{Kind}
use Rattle.md_gen.specs.declared.kind.Kind.TheVariants.{Text, Json, Csv}
use Rattle.md_gen.specs.Files.{ending, path}

-- a test that no digit passes
abbrev pub NoDigit : (ℕ → Bool) → Type 0
NoDigit p = (c : ℕ) → 48 ≤ c → c ≤ 57 → p c ≡ false

no_slash : NoDigit is_slash
no_slash c low high = grind (arith, nat_tests)

no_zero : NoDigit is_zero
no_zero c low high = grind (arith, nat_tests)

abbrev is_dot : ℕ → Bool
is_dot c = c == 46

no_dot : NoDigit is_dot
no_dot c low high = grind (arith, nat_tests)

digits_none : (p : ℕ → Bool) → NoDigit p → (ds : List ℕ) → AllDigits 10 ds → list_any p ds ≡ false
digits_none p none [] digits = refl
digits_none p none (c ∷ ds) digits =
    let range : IsInRange 48 57 c = digit_from_value c digits.0 in
    let first : p c ≡ false = none c (omega arith) (omega arith) in
    rw first (digits_none p none ds digits.1)

decimal_none : (p : ℕ → Bool) → NoDigit p → (i : ℕ) → i < 2 ^ 64 → list_any p (decimal i) ≡ false
decimal_none p none i small = digits_none p none (decimal i) (decimal_is_IsNumeral i small).0.1

none-All : (p : ℕ → Bool) (xs : List ℕ) → list_any p xs ≡ false → All (λ c. p c ≡ false) xs
none-All p [] none = All-nil (λ c. p c ≡ false)
none-All p (x ∷ xs) none = elim (p x) as (λ t. p x ≡ t → t || list_any p xs ≡ false → All (λ c. p c ≡ false) (x ∷ xs)) [
  | true ↦ λ _ h. absurd (false≢true (sym h))
  | false ↦ λ e h. All-cons (λ c. p c ≡ false) x xs e (none-All p xs h)
] refl none

-- a file's name behind its first letter
abbrev numbered : ℕ → Kind → List ℕ
numbered i kind = decimal i ++ ending kind

pub ending_none : (p : ℕ → Bool) → ((kind : Kind) → list_any p (ending kind) ≡ false) → NoDigit p → (i : ℕ) (kind : Kind) → i < 2 ^ 64 → list_any p (numbered i kind) ≡ false
ending_none p none digit i kind small =
    list_any-append p (decimal i) (ending kind) ∙ ap (λ b. b || list_any p (ending kind)) (decimal_none p digit i small) ∙ none kind

ending_slash : (kind : Kind) → list_any is_slash (ending kind) ≡ false
ending_slash Text = refl
ending_slash Json = refl
ending_slash Csv = refl

ending_zero : (kind : Kind) → list_any is_zero (ending kind) ≡ false
ending_zero Text = refl
ending_zero Json = refl
ending_zero Csv = refl

pub ending_length : (kind : Kind) → length (ending kind) ≤ 5
ending_length Text = omega arith
ending_length Json = omega arith
ending_length Csv = omega arith

-- a name in the folder `g`
abbrev in_folder : List ℕ → List ℕ
in_folder rest = 103 ∷ 47 ∷ 102 ∷ rest

split : (rest : List ℕ) → list_any is_slash rest ≡ false → components (in_folder rest) ≡ (103 ∷ []) ∷ (102 ∷ rest) ∷ []
split rest none = ap (λ parts. onto_first 103 ([] ∷ parts)) (slice_split_none is_slash (102 ∷ rest) (none-All is_slash (102 ∷ rest) none))

IsPath-in_folder : (rest : List ℕ) → list_any is_slash rest ≡ false → list_any is_zero rest ≡ false → length rest ≤ 4000 → IsPath (in_folder rest)
IsPath-in_folder rest slash zeros short =
    let same : normal (in_folder rest) ≡ in_folder rest = ap (λ parts. join_with_byte 47 (filter is_kept parts)) (split rest slash) in
    let fits : nat_lt 4096 (length (in_folder rest)) ≡ false = grind (arith, nat_tests) in
    let parents : list_any is_parent (components (in_folder rest)) ≡ false = ap (list_any is_parent) (split rest slash) in
    record {
      good = rw (parents, zeros) (ap (λ bytes. nat_lt 4096 (length bytes)) same ∙ fits);
      normal = same;
    }

pub IsPath-path : (i : ℕ) (kind : Kind) → i < 10000 → IsPath (path i kind)
unfolding path
IsPath-path i kind small =
    let wide : i < 2 ^ 64 = omega arith in
    let digits : length (decimal i) ≤ 4 = length-decimal-le 4 i (omega arith) (omega arith) (omega arith) in
    let short : length (numbered i kind) ≤ 4000 = omega (arith, length-append (decimal i) (ending kind), ending_length kind) in
    IsPath-in_folder (numbered i kind) (ending_none is_slash ending_slash no_slash i kind wide) (ending_none is_zero ending_zero no_zero i kind wide) short

ending_dot : (kind : Kind) → ending kind ≡ 46 ∷ drop 1 (ending kind)
ending_dot Text = refl
ending_dot Json = refl
ending_dot Csv = refl

split_dot : (i : ℕ) (kind : Kind) → i < 2 ^ 64 → slice_split is_dot (numbered i kind) ≡ decimal i ∷ slice_split is_dot (drop 1 (ending kind))
split_dot i kind small =
    ap (λ xs. slice_split is_dot (decimal i ++ xs)) (ending_dot kind)
    ∙ slice_split_at is_dot (decimal i) 46 (drop 1 (ending kind)) (none-All is_dot (decimal i) (decimal_none is_dot no_dot i small)) refl

pub path_injective : (i j : ℕ) (kind other : Kind) → i < 2 ^ 64 → j < 2 ^ 64 → path i kind ≡ path j other → i ≡ j
unfolding path
path_injective i j kind other small least same =
    let names : numbered i kind ≡ numbered j other = ap (drop 3) same in
    let parts : decimal i ∷ slice_split is_dot (drop 1 (ending kind)) ≡ decimal j ∷ slice_split is_dot (drop 1 (ending other)) =
    sym (split_dot i kind small) ∙ ap (slice_split is_dot) names ∙ split_dot j other least
    in
    decimal_injective i j small least (cc)

pub path_some : (i : ℕ) (kind : Kind) → path i kind ≢ []
unfolding path
path_some i kind same = cc
