-- What lines from a number and a moment on make of a script.
use Rattle.std.proofs.Common.{◌≡◌, ℕ, ◌+◌, ◌-◌, ◌==◌, true, length, take, arith, List, [], ◌∷◌, ◌++◌, Option, Some, None, unwrap_or, Result, Ok, Err, refl, sym, ◌∙◌, ap, append_assoc, append-nil, length-append}
use Rattle.std.specs.Option.{option_map}
use Rattle.std.specs.List.{filter_map, enumerate_from, position_from, last_or, cons_option}
use Rattle.std.specs.Str.Lines.{lines}
use Rattle.std.proofs.Math.Seq.{take-append_seam}
use Rattle.std.proofs.lemmas.List.Elements.{filter_map-append}
use Rattle.md_script.specs.declared.grammar.Meaning.{Meaning}
use Rattle.md_script.specs.declared.grammar.Meaning.TheVariants as meaning
use Rattle.md_script.specs.declared.script.What.{What}
use Rattle.md_script.specs.declared.script.Line.{Line}
use Rattle.md_script.specs.declared.script.ScriptError.{ScriptError}
use Rattle.md_script.specs.declared.script.ScriptError.TheVariants.{BadLine}
use Rattle.md_script.specs.Grammar.{said}
use Rattle.md_script.specs.Scripts.{is_bad_line, what_of, moment_of, moment_after, numbered, statements}

-- what a line of this meaning, number and moment says, and the lines that follow it, by their moment
abbrev pub timed_by : Option Meaning → ℕ → ℕ → (ℕ → List Line) → List Line
timed_by None n ms rest = rest ms
timed_by (Some meaning.Nothing) n ms rest = rest ms
timed_by (Some (meaning.At next)) n ms rest = rest next
timed_by (Some (meaning.Says what)) n ms rest = record { number = n; at_ms = ms; what = what } ∷ rest ms

-- the lines that say something, from a number and a moment on
abbrev pub timed : ℕ → ℕ → List (List ℕ) → List Line
timed n ms [] = []
timed n ms (l ∷ ls) = timed_by (said l) n ms (λ next. timed (n + 1) next ls)

last-append : (xs ys : List ℕ) (o : Option ℕ) → last_or o (xs ++ ys) ≡ last_or (last_or o xs) ys
last-append [] ys o = refl
last-append (x ∷ xs) ys o = last-append xs ys (Some x)

last-one : (o p : Option ℕ) → unwrap_or (last_or o (cons_option p [])) 0 ≡ unwrap_or p (unwrap_or o 0)
last-one o None = refl
last-one o (Some ms) = refl

-- the moment after one line more
moment-more : (before : List (List ℕ)) (l : List ℕ) → moment_after (before ++ l ∷ []) ≡ unwrap_or (moment_of (said l)) (moment_after before)
moment-more before l =
    let known = λ (line : List ℕ). moment_of (said line) in
    ap (λ (moments : List ℕ). unwrap_or (last_or None moments) 0) (filter_map-append known before (l ∷ []))
    ∙ ap (λ (o : Option ℕ). unwrap_or o 0) (last-append (filter_map known before) (cons_option (known l) []) None) ∙ last-one (last_or None (filter_map known before)) (known l)

numbered_by : (o : Option Meaning) (n ms : ℕ) (rest : ℕ → List Line)
    → cons_option (option_map (λ (what : What). record { number = n; at_ms = ms; what = what }) (what_of o)) (rest (unwrap_or (moment_of o) ms)) ≡ timed_by o n ms rest
numbered_by None n ms rest = refl
numbered_by (Some meaning.Nothing) n ms rest = refl
numbered_by (Some (meaning.At next)) n ms rest = refl
numbered_by (Some (meaning.Says what)) n ms rest = refl

before_line : (before : List (List ℕ)) (l : List ℕ) (ls : List (List ℕ)) → take (length before + 1 - 1) (before ++ l ∷ ls) ≡ before
before_line before l ls = let e : length before + 1 - 1 ≡ length before = omega arith in ap (λ n. take n (before ++ l ∷ ls)) e ∙ take-append_seam before (l ∷ ls)

-- the lines after some of all lines, with their numbers and moments
numbered_timed : (left before all : List (List ℕ)) → all ≡ before ++ left
    → filter_map (numbered all) (enumerate_from (length before + 1) left) ≡ timed (length before + 1) (moment_after before) left
numbered_timed [] before all is = refl
numbered_timed (l ∷ ls) before all is =
    let n = length before + 1 in
    let longer : length (before ++ l ∷ []) ≡ n = length-append before (l ∷ []) in
    let moment : moment_after (take (n - 1) all) ≡ moment_after before = ap moment_after (ap (take (n - 1)) is ∙ before_line before l ls) in
    let rest : filter_map (numbered all) (enumerate_from (n + 1) ls) ≡ timed (n + 1) (unwrap_or (moment_of (said l)) (moment_after before)) ls =
    ap (λ k. filter_map (numbered all) (enumerate_from (k + 1) ls)) (sym longer)
    ∙ numbered_timed ls (before ++ l ∷ []) all (is ∙ sym (append_assoc before (l ∷ []) ls))
    ∙ ap (λ k. timed (k + 1) (moment_after (before ++ l ∷ [])) ls) longer
    ∙ ap (λ ms. timed (n + 1) ms ls) (moment-more before l) in
    ap (λ ms. cons_option (option_map (λ (what : What). record { number = n; at_ms = ms; what = what }) (what_of (said l))) (filter_map (numbered all) (enumerate_from (n + 1) ls))) moment
    ∙ ap (λ (more : List Line). cons_option (option_map (λ (what : What). record { number = n; at_ms = moment_after before; what = what }) (what_of (said l))) more) rest
    ∙ numbered_by (said l) n (moment_after before) (λ ms. timed (n + 1) ms ls)

-- all lines that say something
pub timed_all : (bytes : List ℕ) → timed 1 0 (lines bytes) ≡ statements bytes
timed_all bytes = sym (numbered_timed (lines bytes) [] (lines bytes) refl)

-- the lines that were read, and those that are left
abbrev pub verdict_after : List Line → List Line → Option ℕ → Result (List Line) ScriptError
verdict_after read left (Some number) = Err (BadLine number)
verdict_after read left None = Ok (read ++ left)

unfoldable pub verdict_from : List Line → ℕ → ℕ → List (List ℕ) → Result (List Line) ScriptError
verdict_from read n ms left = verdict_after read (timed n ms left) (position_from is_bad_line n left)

moved : (read : List Line) (line : Line) (left : List Line) (o : Option ℕ) → verdict_after read (line ∷ left) o ≡ verdict_after (read ++ line ∷ []) left o
moved read line left (Some number) = refl
moved read line left None = ap Ok (sym (append_assoc read (line ∷ []) left))

verdict_from-bad : (read : List Line) (n ms : ℕ) (l : List ℕ) (ls : List (List ℕ)) → said l ≡ None → verdict_from read n ms (l ∷ ls) ≡ Err (BadLine n)
unfolding verdict_from
verdict_from-bad read n ms l ls h = rw h refl

verdict_from-quiet : (read : List Line) (n ms : ℕ) (l : List ℕ) (ls : List (List ℕ)) → said l ≡ Some meaning.Nothing → verdict_from read n ms (l ∷ ls) ≡ verdict_from read (n + 1) ms ls
unfolding verdict_from
verdict_from-quiet read n ms l ls h = rw h refl

verdict_from-at : (read : List Line) (n ms next : ℕ) (l : List ℕ) (ls : List (List ℕ)) → said l ≡ Some (meaning.At next) → verdict_from read n ms (l ∷ ls) ≡ verdict_from read (n + 1) next ls
unfolding verdict_from
verdict_from-at read n ms next l ls h = rw h refl

verdict_from-said : (read : List Line) (n ms : ℕ) (l : List ℕ) (ls : List (List ℕ)) (w : What) → said l ≡ Some (meaning.Says w)
    → verdict_from read n ms (l ∷ ls) ≡ verdict_from (read ++ record { number = n; at_ms = ms; what = w } ∷ []) (n + 1) ms ls
unfolding verdict_from
verdict_from-said read n ms l ls w h = rw h (moved read (record { number = n; at_ms = ms; what = w }) (timed (n + 1) ms ls) (position_from is_bad_line (n + 1) ls))

pub verdict_from-nil : (read : List Line) (n ms : ℕ) → verdict_from read n ms [] ≡ Ok read
unfolding verdict_from
verdict_from-nil read n ms = ap Ok (append-nil read)

module _ (read : List Line) (n ms : ℕ) (left : List (List ℕ)) (line : List ℕ) (after : List (List ℕ)) (whole : Result (List Line) ScriptError) (here : verdict_from read n ms left ≡ whole) (is : left ≡ line ∷ after) where
  -- a line that is not in the grammar is the outcome
  pub bad_step : None ≡ said line → whole ≡ Err (BadLine n)
  bad_step h = sym here ∙ ap (verdict_from read n ms) is ∙ verdict_from-bad read n ms line after (sym h)

  -- a line that says nothing leaves the outcome
  pub quiet_step : Some meaning.Nothing ≡ said line → verdict_from read (n + 1) ms after ≡ whole
  quiet_step h = sym (verdict_from-quiet read n ms line after (sym h)) ∙ ap (verdict_from read n ms) (sym is) ∙ here

  -- a line that sets a moment sets that of the lines after it
  pub at_step : (next : ℕ) → Some (meaning.At next) ≡ said line → verdict_from read (n + 1) next after ≡ whole
  at_step next h = sym (verdict_from-at read n ms next line after (sym h)) ∙ ap (verdict_from read n ms) (sym is) ∙ here

  -- a line that says something is read
  pub said_step : (next : List Line) (w : What) → Some (meaning.Says w) ≡ said line → next ≡ read ++ record { number = n; at_ms = ms; what = w } ∷ [] → verdict_from next (n + 1) ms after ≡ whole
  said_step next w h pushed = ap (λ (l : List Line). verdict_from l (n + 1) ms after) pushed ∙ sym (verdict_from-said read n ms line after w (sym h)) ∙ ap (verdict_from read n ms) (sym is) ∙ here

-- where no line is left, the outcome is what was read
pub end_step : (read : List Line) (n ms : ℕ) (rest : List ℕ) (whole : Result (List Line) ScriptError) → (length rest == 0) ≡ true → verdict_from read n ms (lines rest) ≡ whole → whole ≡ Ok read
end_step read n ms [] whole none here = sym here ∙ verdict_from-nil read n ms
end_step read n ms (b ∷ bs) whole none here = absurd (grind (arith, none))
