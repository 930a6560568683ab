-- The forms of time of a script whose moments are out of range.
use Rattle.std.specs.Prelude.{◌≡◌, ℕ, ℤ, List, [], ◌∷◌, length, Option, None, Some}
use Rattle.std.specs.List.{AllByRecursion}
use Rattle.std.specs.Option.{option_map}
use Rattle.md_value.specs.Values.{IsMoment}
use Rattle.md_match.specs.Forms.{forms, first_out_of_range, capped}
use Rattle.md_script.specs.declared.script.What.{What}
use Rattle.md_script.specs.declared.script.What.TheVariants as what
use Rattle.md_script.specs.declared.script.Line.{Line}
use Rattle.md_live.specs.Moments.{moment_of}

-- the number of the first form of time of a line, from 1, whose moment is out of range, resolved from a moment at an offset; no number is above 2 ^ 32 - 1
abbrev pub form_out : ℤ → ℤ → What → Option ℕ
form_out moment offset (what.Query client number expr scope order batch) = option_map capped (first_out_of_range moment offset expr)
form_out moment offset _ = None

-- the first, or the second where there is none
abbrev pub first_of : Option (ℕ × ℕ) → Option (ℕ × ℕ) → Option (ℕ × ℕ)
first_of (Some x) other = Some x
first_of None other = other

-- the number of the first line with such a form, and the form's number, in a run that began now
abbrev pub out_of_range : ℤ → ℤ → List Line → Option (ℕ × ℕ)
out_of_range now offset [] = None
out_of_range now offset (line ∷ lines) =
    first_of (option_map (λ form. (line.number, form)) (form_out (moment_of now line.at_ms) offset line.what)) (out_of_range now offset lines)

-- how many forms of time a line has
abbrev pub forms_in : What → ℕ
forms_in (what.Query client number expr scope order batch) = length (forms expr)
forms_in _ = 0

-- no line has a form of time
abbrev pub HasNoForm : List Line → Type 0
HasNoForm lines = AllByRecursion (λ line. forms_in line.what ≡ 0) lines

-- each form of time of the lines is in range, whenever a run of them begins
abbrev pub AreAlwaysInRange : ℤ → List Line → Type 0
AreAlwaysInRange offset lines = (now : ℤ) → IsMoment now → out_of_range now offset lines ≡ None
