-- How many askings of imported files failed, and how the count of failures went with that.
use Rattle.std.proofs.Common.{◌≡◌, ℕ, ℤ, ◌+◌, cond, List, [], ◌∷◌, sym, subst, Option, Some, None, Result, Ok, Err}
use Rattle.std.proofs.lemmas.List.Sums.{sum_by-append}
use Rattle.md_value.specs.Attrs.{Attr}
use Rattle.md_value.specs.Values.{PathBytes}
use Rattle.md_value.specs.declared.fault.Fault.{Fault}
use Rattle.md_source.specs.Tree.{Content}
use Rattle.imp_kind.specs.Imports.{import}
use Rattle.md_files.specs.FileAnswers.{FileAnswer, IsAsked, IsCounted, of_import, import_result}
use Rattle.md_files.specs.FileAnswers.FileAnswer.{given, absent, failed}
use Rattle.md_files.specs.declared.asking.ImportResult.{ImportResult}
use Rattle.md_files.proofs.Counting.{counted_then, counted_same, counted_failed}
use Rattle.md_script.specs.declared.script.Line.{Line}
use Rattle.md_live.specs.Given.{imported_path, IsGivenBy, AreGiven, has_failed, failures}

import_counted : (before after : ℕ) (r : Result (List Attr) Fault) → after ≡ before → IsCounted before after (failures (Some (of_import r) ∷ []))
import_counted before after (Ok attrs) kept = counted_same before after kept
import_counted before after (Err fault) kept = counted_same before after kept

first_failures : (o : Option ImportResult) (givens : List (Option ImportResult)) → failures (o ∷ []) + failures givens ≡ failures (o ∷ givens)
first_failures o givens = sym (sum_by-append (λ (o : Option ImportResult). cond (has_failed o) 1 0) (o ∷ []) givens)

module _ (offset : ℤ) (known : Option Content) (before after : ℕ) where
  answer_counted : (path : PathBytes) (answer : FileAnswer) → IsAsked known before after path answer → IsCounted before after (failures (Some (import_result offset answer) ∷ []))
  answer_counted path (given entry bytes) asked = import_counted before after (import entry bytes offset) asked.0
  answer_counted path absent asked = counted_same before after asked.0
  answer_counted path failed fails = counted_failed before after fails

  given_counted : (path : Option PathBytes) (o : Option ImportResult) → IsGivenBy offset known before after path o → IsCounted before after (failures (o ∷ []))
  given_counted (Some path) (Some asked) gives =
      subst (λ (a : ImportResult). IsCounted before after (failures (Some a ∷ []))) (sym gives.is) (answer_counted path gives.answer gives.answers)
  given_counted (Some path) None none = absurd none
  given_counted None (Some asked) none = absurd none
  given_counted None None kept = counted_same before after kept

-- the askings of the files of all lines
pub are_given_counted : (offset : ℤ) (known : Option Content) (before after : ℕ) (lines : List Line) (givens : List (Option ImportResult)) → AreGiven offset known before after lines givens
    → IsCounted before after (failures givens)
are_given_counted offset known before after [] [] kept = counted_same before after kept
are_given_counted offset known before after [] (o ∷ givens) none = absurd none
are_given_counted offset known before after (line ∷ lines) [] none = absurd none
are_given_counted offset known before after (line ∷ lines) (o ∷ givens) turn =
    subst (IsCounted before after) (first_failures o givens)
    (counted_then before turn.0 after (failures (o ∷ [])) (failures givens) (given_counted offset known before turn.0 (imported_path line.what) o turn.1) (are_given_counted offset known turn.0 after lines givens turn.2))
