-- The order of values is a total one.
use Rattle.std.specs.Prelude.{◌≡◌, ℕ, ℤ, Bool, false, List, [], refl}
use Rattle.std.specs.declared.cmp.Ordering.{Ordering}
use Rattle.std.specs.declared.cmp.Ordering.TheVariants.{Less, Equal, Greater}
use Rattle.std.specs.Ordering.{nat_cmp, int_cmp, bool_cmp, ordering_then, then_cmp, on}
use Rattle.std.specs.Cmp.{IsTotalOrder, on_total, then_total, bool_cmp_total, nat_cmp_total, int_cmp_total}
use Rattle.std.specs.Cmp.Lexicographic.{slice_cmp}
use Rattle.std.proofs.Common.{subst}
use Rattle.std.proofs.lemmas.Cmp.{nat_list_cmp_total}
use Rattle.md_value.specs.declared.value.Value.{Value}
use Rattle.md_value.specs.declared.value.Value.TheVariants as value
use Rattle.md_world.specs.Orders.{rank, value_cmp}

-- the contents of a value, kind by kind
text_of : Value → List ℕ
text_of (value.Text text) = text
text_of _ = []

number_of : Value → ℤ
number_of (value.Number number) = number
number_of (value.Moment moment) = moment
number_of _ = ℤ.pos 0

flag_of : Value → Bool
flag_of (value.Flag flag) = flag
flag_of _ = false

-- by kind, and then by content
abbrev parts_cmp : Value → Value → Ordering
parts_cmp = then_cmp (on rank nat_cmp) (then_cmp (on text_of (slice_cmp nat_cmp)) (then_cmp (on number_of int_cmp) (on flag_of bool_cmp)))

then_equal : (o : Ordering) → ordering_then o Equal ≡ o
then_equal Less = refl
then_equal Equal = refl
then_equal Greater = refl

by_parts : (a b : Value) → parts_cmp a b ≡ value_cmp a b
unfolding text_of number_of flag_of
by_parts (value.Text a) (value.Text b) = then_equal (slice_cmp nat_cmp a b)
by_parts (value.Text a) (value.Number b) = refl
by_parts (value.Text a) (value.Flag b) = refl
by_parts (value.Text a) (value.Moment b) = refl
by_parts (value.Number a) (value.Text b) = refl
by_parts (value.Number a) (value.Number b) = then_equal (int_cmp a b)
by_parts (value.Number a) (value.Flag b) = refl
by_parts (value.Number a) (value.Moment b) = refl
by_parts (value.Flag a) (value.Text b) = refl
by_parts (value.Flag a) (value.Number b) = refl
by_parts (value.Flag a) (value.Flag b) = refl
by_parts (value.Flag a) (value.Moment b) = refl
by_parts (value.Moment a) (value.Text b) = refl
by_parts (value.Moment a) (value.Number b) = refl
by_parts (value.Moment a) (value.Flag b) = refl
by_parts (value.Moment a) (value.Moment b) = then_equal (int_cmp a b)

pub value_total : IsTotalOrder value_cmp
value_total =
    subst IsTotalOrder (λ i a b. by_parts a b i)
    (then_total (on_total rank nat_cmp_total) (then_total (on_total text_of nat_list_cmp_total) (then_total (on_total number_of int_cmp_total) (on_total flag_of bool_cmp_total))))
