-- The tests of values and attributes are exact.
use Rattle.std.proofs.Common.{◌≡◌, Bool, true, false, List, [], ◌∷◌, Decides, refl, sym, ap, ◌∙◌}
use Rattle.std.specs.Prelude.{◌&&◌}
use Rattle.std.specs.Cmp.{signed_Decides, booleans_Decides, first_so, second_so, int_eq_equiv}
use Rattle.std.specs.Cmp.Lexicographic.{pointwise}
use Rattle.std.specs.Ordering.{int_cmp}
use Rattle.std.proofs.lemmas.Map.Lookups.{exact_signed}
use Rattle.std.proofs.lemmas.Slice.Eq.{slice_eq-Decides}
use mathlib.Core.Bool.{false≢true}
use Rattle.md_value.specs.Values.{is_same, same_decides, same_flag, same_value, same_values}
use Rattle.md_value.specs.Attrs.{Attr, same_attrs}
use Rattle.md_value.specs.declared.value.Value.{Value}
use Rattle.md_value.specs.declared.value.Value.TheVariants as value
use Rattle.md_value.specs.contracts.value.ValuePartialEq.TheImpl as derived
use Rattle.md_value.proofs.Orders.{same_exact, same_refl, equal}

-- both parts of a test that holds
pub both : (a b : Bool) → a && b ≡ true → (a ≡ true) × (b ≡ true)
both true b h = (refl, h)
both false b h = cc

flag_exact : (a b : Bool) → same_flag a b ≡ true → a ≡ b
flag_exact true b h = sym h
flag_exact false true h = cc
flag_exact false false h = refl

value_exact : (a b : Value) → same_value a b ≡ true → a ≡ b
value_exact (value.Text a) (value.Text b) h = ap value.Text (same_exact a b h)
value_exact (value.Number a) (value.Number b) h = ap value.Number (exact_signed a b (equal (int_cmp a b) h))
value_exact (value.Flag a) (value.Flag b) h = ap value.Flag (flag_exact a b h)
value_exact (value.Moment a) (value.Moment b) h = ap value.Moment (exact_signed a b (equal (int_cmp a b) h))
value_exact _ _ h = cc

values_exact : (a b : List Value) → same_values a b ≡ true → a ≡ b
values_exact [] [] h = refl
values_exact (a ∷ left) (b ∷ right) h =
    let parts = both (same_value a b) (same_values left right) h in
    let head = value_exact a b parts.0 in
    let tail = values_exact left right parts.1 in cc
values_exact _ _ h = cc

-- attributes that the test finds the same are equal
pub attrs_exact : (a b : List Attr) → same_attrs a b ≡ true → a ≡ b
attrs_exact [] [] h = refl
attrs_exact ((n, vs) ∷ left) ((m, ws) ∷ right) h =
    let parts = both (is_same n m && same_values vs ws) (same_attrs left right) h in
    let prefix = both (is_same n m) (same_values vs ws) parts.0 in
    let name = same_exact n m prefix.0 in
    let values = values_exact vs ws prefix.1 in
    let tail = attrs_exact left right parts.1 in cc
attrs_exact _ _ h = cc

flag_refl : (b : Bool) → same_flag b b ≡ true
flag_refl true = refl
flag_refl false = refl

value_refl : (v : Value) → same_value v v ≡ true
value_refl (value.Text text) = same_refl text
value_refl (value.Number n) = int_eq_equiv.refl n
value_refl (value.Flag b) = flag_refl b
value_refl (value.Moment n) = int_eq_equiv.refl n

values_refl : (vs : List Value) → same_values vs vs ≡ true
values_refl [] = refl
values_refl (v ∷ vs) = rw (value_refl v, values_refl vs) refl

-- the test finds attributes the same as themselves
pub attrs_refl : (attrs : List Attr) → same_attrs attrs attrs ≡ true
attrs_refl [] = refl
attrs_refl (a ∷ attrs) = rw (same_refl a.0, values_refl a.1, attrs_refl attrs) refl

pub attrs-Decides : (a b : List Attr) → Decides (same_attrs a b) (a ≡ b)
attrs-Decides a b = (λ h. attrs_exact a b h, λ e. ap (same_attrs a) (sym e) ∙ attrs_refl a)

pub value_eq-Decides : (a b : Value) → Decides (derived.ghosts.eq a b) (a ≡ b)
value_eq-Decides (value.Text a) (value.Text b) = let same = same_decides a b in (λ e. ap value.Text (same.0 e), λ e. same.1 (cc))
value_eq-Decides (value.Number a) (value.Number b) = let same = signed_Decides a b in (λ e. ap value.Number (same.0 e), λ e. same.1 (cc))
value_eq-Decides (value.Flag a) (value.Flag b) = let same = booleans_Decides a b in (λ e. ap value.Flag (same.0 e), λ e. same.1 (cc))
value_eq-Decides (value.Moment a) (value.Moment b) = let same = signed_Decides a b in (λ e. ap value.Moment (same.0 e), λ e. same.1 (cc))
value_eq-Decides a b = (λ e. absurd (false≢true e), λ e. cc)

abbrev pub pair_eq : Attr → Attr → Bool
pair_eq x y = is_same x.0 y.0 && pointwise derived.ghosts.eq x.1 y.1

-- `==` at attributes decides whether they are the same
pub pair_eq-Decides : (x y : Attr) → Decides (pair_eq x y) (x ≡ y)
pair_eq-Decides x y =
    let names = same_decides x.0 y.0 in
    let values = slice_eq-Decides value_eq-Decides x.1 y.1 _ refl in (
      λ e. λ i. (names.0 (first_so (is_same x.0 y.0) _ e) i, values.0 (second_so (is_same x.0 y.0) _ e) i),
      λ e. λ i. names.1 (λ j. (e j).0) i && values.1 (λ j. (e j).1) i,
    )
