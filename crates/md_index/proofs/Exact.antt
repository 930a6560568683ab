-- Names and values that compare alike are one.
use Rattle.std.proofs.Common.{◌≡◌, ℕ, Bool, true, false, List, refl, ap}
use Rattle.std.specs.declared.cmp.Ordering.{Ordering}
use Rattle.std.specs.declared.cmp.Ordering.TheVariants.{Less, Equal, Greater}
use Rattle.std.specs.Ordering.{nat_cmp, int_cmp, bool_cmp, is_eq, ordering_then}
use Rattle.std.specs.Cmp.Lexicographic.{slice_cmp}
use Rattle.std.proofs.lemmas.Map.Lookups.{exact_bytes, exact_signed}
use Rattle.md_value.specs.declared.value.Value.{Value}
use Rattle.md_value.specs.declared.value.Value.TheVariants as value
use Rattle.md_world.specs.Orders.{value_cmp}
use Rattle.md_index.specs.declared.keyed.Keyed.{Keyed}
use Rattle.md_index.specs.declared.wanted.Wanted.{Wanted}
use Rattle.md_index.specs.Keys.{keyed_cmp, wanted_cmp}

pub equal : (o : Ordering) → is_eq o ≡ true → o ≡ Equal
equal Less h = cc
equal Equal h = refl
equal Greater h = cc

pub exact_name : (a b : List ℕ) → is_eq (slice_cmp nat_cmp a b) ≡ true → a ≡ b
exact_name a b h = exact_bytes a b (equal (slice_cmp nat_cmp a b) h)

pub exact_flag : (a b : Bool) → bool_cmp a b ≡ Equal → a ≡ b
exact_flag true true h = refl
exact_flag true false h = cc
exact_flag false true h = cc
exact_flag false false h = refl

pub exact_value : (a b : Value) → is_eq (value_cmp a b) ≡ true → a ≡ b
exact_value (value.Text a) (value.Text b) h = ap value.Text (exact_bytes a b (equal (slice_cmp nat_cmp a b) h))
exact_value (value.Number a) (value.Number b) h = ap value.Number (exact_signed a b (equal (int_cmp a b) h))
exact_value (value.Flag a) (value.Flag b) h = ap value.Flag (exact_flag a b (equal (bool_cmp a b) h))
exact_value (value.Moment a) (value.Moment b) h = ap value.Moment (exact_signed a b (equal (int_cmp a b) h))
exact_value (value.Text a) (value.Number b) h = cc
exact_value (value.Text a) (value.Flag b) h = cc
exact_value (value.Text a) (value.Moment b) h = cc
exact_value (value.Number a) (value.Text b) h = cc
exact_value (value.Number a) (value.Flag b) h = cc
exact_value (value.Number a) (value.Moment b) h = cc
exact_value (value.Flag a) (value.Text b) h = cc
exact_value (value.Flag a) (value.Number b) h = cc
exact_value (value.Flag a) (value.Moment b) h = cc
exact_value (value.Moment a) (value.Text b) h = cc
exact_value (value.Moment a) (value.Number b) h = cc
exact_value (value.Moment a) (value.Flag b) h = cc

then_first : (o p : Ordering) → is_eq (ordering_then o p) ≡ true → is_eq o ≡ true
then_first Less p h = cc
then_first Equal p h = refl
then_first Greater p h = cc

then_second : (o p : Ordering) → is_eq (ordering_then o p) ≡ true → is_eq p ≡ true
then_second Less p h = cc
then_second Equal p h = h
then_second Greater p h = cc

pub exact_keyed : (a b : Keyed) → is_eq (keyed_cmp a b) ≡ true → a ≡ b
exact_keyed a b h =
    let key : a.key ≡ b.key = exact_name a.key b.key (then_first (slice_cmp nat_cmp a.key b.key) (value_cmp a.indexed b.indexed) h) in
    let indexed : a.indexed ≡ b.indexed = exact_value a.indexed b.indexed (then_second (slice_cmp nat_cmp a.key b.key) (value_cmp a.indexed b.indexed) h) in
    λ i. record { key = key i; indexed = indexed i }

pub exact_wanted : (a b : Wanted) → is_eq (wanted_cmp a b) ≡ true → a ≡ b
exact_wanted a b h =
    let modifiers = ordering_then (bool_cmp a.fold b.fold) (bool_cmp a.marks b.marks) in
    let name : a.name ≡ b.name = exact_name a.name b.name (then_first (slice_cmp nat_cmp a.name b.name) modifiers h) in
    let same : is_eq modifiers ≡ true = then_second (slice_cmp nat_cmp a.name b.name) modifiers h in
    let fold : a.fold ≡ b.fold = exact_flag a.fold b.fold (equal (bool_cmp a.fold b.fold) (then_first (bool_cmp a.fold b.fold) (bool_cmp a.marks b.marks) same)) in
    let marks : a.marks ≡ b.marks = exact_flag a.marks b.marks (equal (bool_cmp a.marks b.marks) (then_second (bool_cmp a.fold b.fold) (bool_cmp a.marks b.marks) same)) in
    λ i. record { name = name i; fold = fold i; marks = marks i }
