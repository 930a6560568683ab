-- Parts that texts have.
use Rattle.std.proofs.Common.{◌≡◌, ◌||◌, ℕ, Bool, true, false, List, [], ◌∷◌, length, drop, refl, ap, nat_eq}
use Rattle.std.specs.Bool.{Decides}
use Rattle.std.specs.List.{starts_with}
use Rattle.std.specs.Str.Iter.{HasSubslice}
use Rattle.std.proofs.lemmas.Bool.Decides.{Decides-eqb}
use Rattle.std.proofs.lemmas.Slice.Eq.{starts_is}
use Rattle.md_find.specs.Searches.{has_part}

later : (x : ℕ) (text part : List ℕ) → HasSubslice text part → HasSubslice (x ∷ text) part
later x text part (a, b, e) = (x ∷ a, b, ap (λ bs. x ∷ bs) e)

or_true : (b c : Bool) → c ≡ true → (b || c) ≡ true
or_true true c h = refl
or_true false c h = h

there : (part text : List ℕ) → has_part part text ≡ true → HasSubslice text part
there part [] h = ([], drop (length part) [], (starts_is Decides-eqb [] part _ refl).0 h)
there part (x ∷ text) h =
    elim (starts_with nat_eq (x ∷ text) part) as (λ b. starts_with nat_eq (x ∷ text) part ≡ b → HasSubslice (x ∷ text) part) [
      | true ↦ λ e. ([], drop (length part) (x ∷ text), (starts_is Decides-eqb (x ∷ text) part _ refl).0 e)
      | false ↦ λ e. later x text part (there part text (rw e at h))
    ] refl

found : (part text : List ℕ) → HasSubslice text part → has_part part text ≡ true
found [] [] h = refl
found (p ∷ part) [] ([], b, e) = cc
found (p ∷ part) [] (y ∷ a, b, e) = cc
found part (x ∷ text) ([], b, e) = rw ((starts_is Decides-eqb (x ∷ text) part _ refl).1 b e) refl
found part (x ∷ text) (y ∷ a, b, e) = or_true (starts_with nat_eq (x ∷ text) part) (has_part part text) (found part text (a, b, ap (drop 1) e))

pub has_part_Decides : (part text : List ℕ) → Decides (has_part part text) (HasSubslice text part)
has_part_Decides part text = (there part text, found part text)
