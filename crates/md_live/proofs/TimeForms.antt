-- Lines with no form of time are in range; and where lines are, so is each of them.
use Rattle.std.proofs.Common.{◌≡◌, ℕ, ℤ, List, [], ◌∷◌, length, refl, ◌∙◌, ap, Option, None, Some}
use Rattle.std.specs.Option.{option_map}
use Rattle.md_match.specs.Forms.{forms, first_out_from, capped}
use Rattle.md_script.specs.declared.script.Line.{Line}
use Rattle.md_script.specs.declared.script.What.{What}
use Rattle.md_script.specs.declared.script.What.TheVariants as what
use Rattle.md_live.specs.Moments.{moment_of}
use Rattle.md_live.specs.TimeForms.{form_out, forms_in, first_of, out_of_range, HasNoForm, AreAlwaysInRange}

in_range : (moment offset : ℤ) (w : What) → forms_in w ≡ 0 → form_out moment offset w ≡ None
in_range moment offset (what.Query client number expr scope order batch) none =
    elim (forms expr) as (λ fs. length fs ≡ 0 → option_map capped (first_out_from 1 moment offset fs) ≡ None) [
      | [] ↦ λ none. refl
      | f ∷ fs ↦ λ none. cc
    ] none
in_range moment offset _ none = refl

pub always_in_range : (offset : ℤ) (lines : List Line) → HasNoForm lines → AreAlwaysInRange offset lines
always_in_range offset [] none now is = refl
always_in_range offset (line ∷ lines) none now is =
    ap (λ (form : Option ℕ). first_of (option_map (λ (n : ℕ). (line.number, n)) form) (out_of_range now offset lines)) (in_range (moment_of now line.at_ms) offset line.what none.0)
    ∙ always_in_range offset lines none.1 now is

first_and_rest : (o : Option ℕ) (number : ℕ) (others : Option (ℕ × ℕ)) → first_of (option_map (λ form. (number, form)) o) others ≡ None → (o ≡ None) × (others ≡ None)
first_and_rest None number others h = (refl, h)
first_and_rest (Some form) number others h = cc

-- where no form of these lines is out of range, none of the first is, and none of the others
pub timely_then : (now offset : ℤ) (line : Line) (lines : List Line) → out_of_range now offset (line ∷ lines) ≡ None
    → (form_out (moment_of now line.at_ms) offset line.what ≡ None) × (out_of_range now offset lines ≡ None)
timely_then now offset line lines h = first_and_rest (form_out (moment_of now line.at_ms) offset line.what) line.number (out_of_range now offset lines) h
