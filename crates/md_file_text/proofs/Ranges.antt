-- The moments of what is printed are in range.
use Rattle.std.proofs.Common.{◌≡◌, ℕ, true, false, List, [], ◌∷◌, All, sym, subst}
use Rattle.std.specs.Prelude.{Option, None, Some, IfSome, if◌then◌else◌}
use Rattle.std.specs.Option.{option_map}
use Rattle.std.specs.List.{AllByRecursion}
use Rattle.md_value.specs.declared.value.Value.{Value}
use Rattle.md_value.specs.Values.{IsInRange, is_same}
use Rattle.md_value.specs.Attrs.{Attr, IsAttrs, IsValues, get}

found_in_range : (attrs : List Attr) (name : List ℕ) → AllByRecursion (λ (attr : Attr). IsValues attr.1) attrs → IfSome (get attrs name) (All IsInRange)
found_in_range [] name h = tt
found_in_range (attr ∷ attrs) name h =
    elim (is_same attr.0 name) as (λ b. IfSome (if b then Some attr.1 else get attrs name) (All IsInRange)) [
      | true ↦ h.0.in_range
      | false ↦ found_in_range attrs name h.1
    ]

-- what is found of attributes, as it was lent
pub lent_in_range : {A : Type 0} (f : A → List Value) (lent : Option A) (attrs : List Attr) (name : List ℕ) → IsAttrs attrs → option_map f lent ≡ get attrs name → IfSome lent (λ a. All IsInRange (f a))
lent_in_range f None attrs name h e = tt
lent_in_range f (Some a) attrs name h e = subst (λ o. IfSome o (All IsInRange)) (sym e) (found_in_range attrs name h.values)
