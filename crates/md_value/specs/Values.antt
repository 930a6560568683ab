-- When two texts, two names, two paths or two values are the same; kinds of values, and the moments that they may hold.
use Rattle.std.specs.Prelude.{◌≡◌, ℕ, Bool, true, false, not, List, [], ◌∷◌, ◌&&◌, ℤ, pos, neg_ℤ, ◌≤ℤ◌}
use Rattle.std.specs.Ordering.{is_lt, nat_cmp, int_eq}
use Rattle.std.specs.Cmp.{IsEquivalence}
use Rattle.std.specs.Cmp.Lexicographic.{slice_cmp, nat_list_eq_equiv, bytes_decides}
use Rattle.std.specs.Bool.{Decides}
use Rattle.std.specs.List.{list_any}
use Rattle.std.specs.Str.{bytes_eq}
use Rattle.md_value.specs.declared.value.Value.{Value}
use Rattle.md_value.specs.declared.value.Value.TheVariants as value
use Rattle.md_value.specs.declared.value.Kind.{Kind}
use Rattle.md_value.specs.declared.value.Kind.TheVariants as kind

-- a path from the root, as its bytes; the root is empty
abbrev pub PathBytes : Type 0
PathBytes = List ℕ

-- whether two paths, names or texts are the same
unfoldable pub is_same : List ℕ → List ℕ → Bool
is_same a b = bytes_eq a b

pub same_equiv : IsEquivalence is_same
unfolding is_same
same_equiv = nat_list_eq_equiv

-- the test, which is `==` at names, paths and texts, decides whether they are the same
pub same_decides : (a b : List ℕ) → Decides (is_same a b) (a ≡ b)
unfolding is_same
same_decides = bytes_decides

-- whether a path or a name stands before another, by bytes
unfoldable pub is_before : List ℕ → List ℕ → Bool
is_before a b = is_lt (slice_cmp nat_cmp a b)

-- whether two flags are the same
abbrev pub same_flag : Bool → Bool → Bool
same_flag true b = b
same_flag false true = false
same_flag false false = true

-- whether two values are the same, kind and content
abbrev pub same_value : Value → Value → Bool
same_value (value.Text a) (value.Text b) = is_same a b
same_value (value.Number a) (value.Number b) = int_eq a b
same_value (value.Flag a) (value.Flag b) = same_flag a b
same_value (value.Moment a) (value.Moment b) = int_eq a b
same_value _ _ = false

-- whether two lists of values are the same
abbrev pub same_values : List Value → List Value → Bool
same_values [] [] = true
same_values (a ∷ left) (b ∷ right) = same_value a b && same_values left right
same_values _ _ = false

-- whether a value is this text
abbrev pub is_text : List ℕ → Value → Bool
is_text text (value.Text other) = is_same text other
is_text text _ = false

abbrev pub kind_of : Value → Kind
kind_of (value.Text text) = kind.Text
kind_of (value.Number number) = kind.Number
kind_of (value.Flag flag) = kind.Flag
kind_of (value.Moment moment) = kind.Moment

abbrev pub same_kind : Value → Value → Bool
same_kind (value.Text a) (value.Text b) = true
same_kind (value.Number a) (value.Number b) = true
same_kind (value.Flag a) (value.Flag b) = true
same_kind (value.Moment a) (value.Moment b) = true
same_kind _ _ = false

-- two of the values differ in kind
abbrev pub is_mixed : List Value → Bool
is_mixed [] = false
is_mixed (first ∷ rest) = list_any (λ v. not (same_kind first v)) rest

-- the first moment of year 0001 and the last of year 9999, in seconds since 1970 in UTC
abbrev pub first_moment : ℤ
first_moment = neg_ℤ (pos 62_135_596_800)

abbrev pub last_moment : ℤ
last_moment = pos 253_402_300_799

-- from year 0001 to year 9999
abbrev pub IsMoment : ℤ → Type 0
IsMoment moment = (first_moment ≤ℤ moment) × (moment ≤ℤ last_moment)

-- a moment in it is in range
abbrev pub IsInRange : Value → Type 0
IsInRange (value.Text text) = Unit {0}
IsInRange (value.Number number) = Unit {0}
IsInRange (value.Flag flag) = Unit {0}
IsInRange (value.Moment moment) = IsMoment moment
