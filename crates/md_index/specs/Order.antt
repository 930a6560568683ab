-- Values and names, of which two are equal where neither is before the other.
use Rattle.std.specs.Prelude.{ℕ, Bool, List}
use Rattle.std.specs.Ordering.{nat_cmp, eq_by_cmp}
use Rattle.std.specs.Cmp.{IsEquivalence, IsTotalOrder, eq_by_cmp_equiv}
use Rattle.std.specs.Cmp.Lexicographic.{slice_cmp}
use Rattle.std.proofs.lemmas.Cmp.{nat_list_cmp_total}
use Rattle.md_value.specs.declared.value.Value.{Value}
use Rattle.md_world.specs.Orders.{value_cmp}
pub use Rattle.md_world.specs.ValueOrder.{value_total}

-- a value of an attribute
abbrev pub OneValue : Type 0
OneValue = Value

-- whether two values are one
abbrev pub is_value : Value → Value → Bool
is_value = eq_by_cmp value_cmp

-- whether two names are one
abbrev pub is_one_name : List ℕ → List ℕ → Bool
is_one_name = eq_by_cmp (slice_cmp nat_cmp)

pub name_total : IsTotalOrder (slice_cmp nat_cmp)
name_total = nat_list_cmp_total

pub name_equiv : IsEquivalence is_one_name
name_equiv = eq_by_cmp_equiv name_total

pub value_equiv : IsEquivalence is_value
value_equiv = eq_by_cmp_equiv value_total
