-- What was unescaped before, and what is left.
use Rattle.std.proofs.Common.{◌≡◌, ℕ, Bool, false, List, [], ◌∷◌, ◌++◌, Option, Some, None, refl, sym, ◌∙◌, ap, append_assoc}
use Rattle.std.specs.Option.{option_map}
use Rattle.md_script.specs.Escapes.{unescaped_after, unescaped}

abbrev pub prepended : List ℕ → Option (List ℕ) → Option (List ℕ)
prepended prefix o = option_map (λ t. prefix ++ t) o

prepended-add : (prefix : List ℕ) (c : ℕ) (o : Option (List ℕ)) → prepended (prefix ++ c ∷ []) o ≡ prepended prefix (option_map (λ t. c ∷ t) o)
prepended-add prefix c None = refl
prepended-add prefix c (Some t) = ap Some (append_assoc prefix (c ∷ []) t)

-- a byte that adds c goes over to the beginning
pub add_step : (prefix next : List ℕ) (b c : ℕ) (escaping : Bool) (rest tail : List ℕ) (whole : Option (List ℕ)) → next ≡ prefix ++ c ∷ [] → rest ≡ b ∷ tail
    → ((bs : List ℕ) → unescaped_after escaping (b ∷ bs) ≡ option_map (λ t. c ∷ t) (unescaped_after false bs)) → prepended prefix (unescaped_after escaping rest) ≡ whole
    → prepended next (unescaped_after false tail) ≡ whole
add_step prefix next b c escaping rest tail whole pushed is adds left =
    ap (λ (n : List ℕ). prepended n (unescaped_after false tail)) pushed ∙ prepended-add prefix c (unescaped_after false tail) ∙ ap (prepended prefix) (sym (adds tail) ∙ ap (unescaped_after escaping) (sym is)) ∙ left

-- a byte that fails leaves no text
pub fail_step : (prefix : List ℕ) (b : ℕ) (escaping : Bool) (rest tail text : List ℕ) → rest ≡ b ∷ tail → ((bs : List ℕ) → unescaped_after escaping (b ∷ bs) ≡ None)
    → prepended prefix (unescaped_after escaping rest) ≡ unescaped_after false text → None ≡ unescaped text
unfolding unescaped
fail_step prefix b escaping rest tail text is fails left = sym (ap (prepended prefix) (fails tail)) ∙ ap (λ (r : List ℕ). prepended prefix (unescaped_after escaping r)) (sym is) ∙ left
