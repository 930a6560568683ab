-- The first line of a text, and where a byte stands first.
use Rattle.std.proofs.Common.{◌≡◌, ℕ, ◌+◌, ◌<◌, ◌≤◌, Bool, true, false, cond, eqb, ltb, List, [], ◌∷◌, length, refl, sym, ◌∙◌, ap, Option, Some, None, arith}
use Rattle.std.specs.List.{list_any, slice_split, position_or_len, before_first, after_first}
use Rattle.std.specs.Str.Lines.{lines, lines_of_parts, strip_carriage_return}
use Rattle.std.proofs.lemmas.Bool.{ltb-false}
use Rattle.std.proofs.lemmas.Bool.Decides.{nat_tests}
use Rattle.std.proofs.lemmas.List.Folds.{list_any_none}
use Rattle.std.proofs.lemmas.List.Splits.{slice_split_first, slice_split_none, length-slice_split}
use Rattle.std.proofs.lemmas.List.Sums.{fails_before_first, prefix_len-le-length}

lines_of_parts-more : (part : List ℕ) (parts : List (List ℕ)) → 0 < length parts → lines_of_parts (part ∷ parts) ≡ strip_carriage_return part ∷ lines_of_parts parts
lines_of_parts-more part [] some = absurd (omega arith)
lines_of_parts-more part (next ∷ parts) some = refl

-- a text with a line feed is its first line and the lines of what follows
pub lines-first : (bs : List ℕ) → position_or_len (λ b. eqb b 10) bs < length bs → lines bs ≡ strip_carriage_return (before_first (λ b. eqb b 10) bs) ∷ lines (after_first (λ b. eqb b 10) bs)
lines-first bs found =
    ap lines_of_parts (slice_split_first (λ b. eqb b 10) bs 0 found) ∙ lines_of_parts-more (before_first (λ b. eqb b 10) bs) (slice_split (λ b. eqb b 10) (after_first (λ b. eqb b 10) bs)) (omega (arith, length-slice_split (λ b. eqb b 10) (after_first (λ b. eqb b 10) bs)))

-- a text with no line feed is one line
pub lines-last : (bs : List ℕ) → 0 < length bs → length bs ≤ position_or_len (λ b. eqb b 10) bs → lines bs ≡ bs ∷ []
lines-last bs some none =
    ap lines_of_parts (slice_split_none (λ b. eqb b 10) bs (λ k d lt. fails_before_first (λ b. eqb b 10) bs k d (omega (arith, none)))) ∙ grind (arith, nat_tests)

-- where a search by place ends
pub place_found : (place len end : ℕ) (r : Option ℕ) → r ≡ cond (ltb place len) (Some place) None → r ≡ Some end → end ≡ place
place_found place len end r is some = elim (ltb place len) as (λ b. ltb place len ≡ b → cond b (Some place) None ≡ Some end → end ≡ place) [
  | true ↦ λ lt e. cc
  | false ↦ λ _ e. cc
] refl (sym is ∙ some)

place_beyond : (place len : ℕ) (r : Option ℕ) → r ≡ cond (ltb place len) (Some place) None → r ≡ None → ltb place len ≡ false
place_beyond place len r is none = elim (ltb place len) as (λ b. cond b (Some place) None ≡ None → b ≡ false) [ true ↦ λ e. cc | false ↦ λ _. refl ] (sym is ∙ none)

pub place_none : (p : ℕ → Bool) (xs : List ℕ) (r : Option ℕ) → r ≡ cond (ltb (position_or_len p xs) (length xs)) (Some (position_or_len p xs)) None → r ≡ None → length xs ≡ position_or_len p xs
place_none p xs r is none =
    let beyond = ltb-false (position_or_len p xs) (length xs) (place_beyond (position_or_len p xs) (length xs) r is none) in
    let within : position_or_len p xs ≤ length xs = prefix_len-le-length _ xs in
    omega (arith, beyond, within)

-- whether there is a place
pub any_found : (p : ℕ → Bool) (xs : List ℕ) → position_or_len p xs < length xs → list_any p xs ≡ true
any_found p [] h = absurd (omega arith)
any_found p (x ∷ xs) h =
    elim (p x) as (λ b. p x ≡ b → list_any p (x ∷ xs) ≡ true) [
      | true ↦ λ is. rw is refl
      | false ↦ λ is. rw is (any_found p xs (let more : 1 + position_or_len p xs < length (x ∷ xs) = rw is at h in omega arith))
    ] refl

pub any_none : (p : ℕ → Bool) (xs : List ℕ) → length xs ≤ position_or_len p xs → list_any p xs ≡ false
any_none p xs none = list_any_none p xs (λ k d lt. fails_before_first p xs k d (omega (arith, none)))
