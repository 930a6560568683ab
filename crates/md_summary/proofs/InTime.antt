-- A script whose lines are in time has no form of time out of range.
use Rattle.std.proofs.Common.{◌≡◌, ℕ, List, [], ◌∷◌, pos, None, Ok, refl, sym, ◌∙◌, ap}
use Rattle.std.specs.List.{All}
use Rattle.std.proofs.lemmas.List.Elements.{All-head, All-tail}
use Rattle.md_script.specs.declared.script.What.{What}
use Rattle.md_script.specs.declared.script.What.TheVariants as what
use Rattle.md_script.specs.declared.script.Line.{Line}
use Rattle.md_script.specs.Scripts.{verdict}
use Rattle.md_gen.specs.Reads.{IsTimely, IsRead}
use Rattle.md_live.specs.TimeForms.{form_out, out_of_range}

form_in : (what : What) → IsTimely what → form_out (pos 0) (pos 0) what ≡ None
form_in (what.Put path text) timely = refl
form_in (what.Import path) timely = refl
form_in (what.Remove path) timely = refl
form_in (what.Query client number expr scope order batch) timely = rw timely refl
form_in (what.Gather client number) timely = refl
form_in (what.Poll client number) timely = refl
form_in (what.Disable client number) timely = refl
form_in (what.Enable client number) timely = refl
form_in (what.Stop client number) timely = refl
form_in (what.Show client number) timely = refl
form_in (what.Vacuum client) timely = refl

abbrev IsNow : Line → Type 0
IsNow line = line.at_ms ≡ 0

abbrev IsInTime : Line → Type 0
IsInTime line = IsTimely line.what

pub lines_in : (lines : List Line) → All IsNow lines → All IsInTime lines → out_of_range (pos 0) (pos 0) lines ≡ None
lines_in [] now timely = refl
lines_in (line ∷ lines) now timely =
    rw (All-head IsNow line lines now, form_in line.what (All-head IsInTime line lines timely))
    (lines_in lines (All-tail IsNow line lines now) (All-tail IsInTime line lines timely))

pub read_in : (text : List ℕ) (lines : List Line) → IsRead text → verdict text ≡ Ok lines → out_of_range (pos 0) (pos 0) lines ≡ None
read_in text lines is read =
    let same : is.lines ≡ lines = (let both = sym is.read ∙ read in cc (both)) in
    ap (out_of_range (pos 0) (pos 0)) (sym same) ∙ lines_in is.lines is.moments is.timely
