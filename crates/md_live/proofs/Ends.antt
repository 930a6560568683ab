-- The causes of the ends of a run.
use Rattle.std.proofs.Common.{◌≡◌, ℕ, ℤ, Bool, true, false, ◌&&◌, ◌||◌, ◌+◌, ◌-◌, ◌^◌, ◌≤◌, min, List, [], ◌∷◌, length, refl, sym, ◌∙◌, ap, subst, Option, Some, None, IfSome, arith}
use Rattle.std.specs.List.{list_any, filter_map}
use Rattle.md_value.specs.Values.{PathBytes}
use Rattle.md_source.specs.Causes.{Rose}
use Rattle.md_source.specs.Tree.{Content}
use Rattle.imp_kind.specs.Imports.{import}
use Rattle.md_files.specs.FileAnswers.{FileAnswer, IsAsked, Fails, import_result}
use Rattle.md_files.specs.FileAnswers.FileAnswer.{given, absent, failed}
use Rattle.md_files.specs.Findings.{Finding, is_failed, is_absent}
use Rattle.md_files.specs.Findings.Finding.{named}
use Rattle.md_files.specs.Reports.{FileReport, EndHasCause, tells_file}
use Rattle.md_files.specs.declared.asking.ImportResult.{ImportResult}
use Rattle.md_files.specs.declared.report.End.TheVariants as ended
use Rattle.md_files.proofs.Additions.{end_by}
use Rattle.md_files.proofs.Causes.{quiet_named, there_named, and_false, not_true, is_absent_end, complete_end}
use Rattle.md_script.specs.declared.script.What.{What}
use Rattle.md_script.specs.declared.script.What.TheVariants as what
use Rattle.md_script.specs.declared.script.Line.{Line}
use Rattle.md_live.specs.Moments.{moment_of}
use Rattle.md_live.specs.Given.{imported_path, IsGivenBy, AreGiven, tells_imports}
use Rattle.md_live.specs.Actions.{Action, action_at, action_of, actions_of}
use Rattle.md_live.specs.Actions.Action.{job, removal, query, show}
use Rattle.md_live.specs.Headline.{Headline}
use Rattle.md_live.specs.Reports.{Runs, finding_of, report_of_actions}
use Rattle.md_live.proofs.Counting.{are_given_counted}
use Rattle.md_live.proofs.Headline.{one_run}

-- the count of failures rose where something failed, and stands otherwise
abbrev Stands : Bool → ℕ → ℕ → Type 0
Stands true before now = Fails before now
Stands false before now = now ≡ before

rose_on : (most before between now : ℕ) → min (before + 1) most ≤ between → between ≤ now → min (before + 1) most ≤ now
rose_on most before between now rose later = omega arith

stands_then : (b c : Bool) (before between now : ℕ) → Stands b before between → Stands c between now → Stands (b || c) before now
stands_then true true before between now first then = (omega (arith, first.0, then.0), rose_on (2 ^ 64 - 1) before between now first.1 then.0)
stands_then true false before between now first kept = subst (λ n. Fails before n) (sym kept) first
stands_then false c before between now kept then = subst (λ n. Stands c n now) kept then

ended_so : (before now : ℕ) (some none : Bool) → Stands some before now → EndHasCause before now (end_by some none)
ended_so before now true none fails = fails
ended_so before now false true kept = kept
ended_so before now false false kept = kept

or_true : (b c : Bool) → (b || c) ≡ true → b ≡ false → c ≡ true
or_true true c is none = cc
or_true false c is none = is

-- whether there is a finding that passes the test
abbrev passes : (Finding → Bool) → Option Finding → Bool
passes test None = false
passes test (Some finding) = test finding

first_passes : (test : Finding → Bool) (action : Action) (actions : List Action)
    → list_any test (filter_map finding_of (action ∷ actions)) ≡ (passes test (finding_of action) || list_any test (filter_map finding_of actions))
first_passes test (job path asked) actions = refl
first_passes test (removal path) actions = refl
first_passes test (query event) actions = refl
first_passes test (show client number) actions = refl

-- whether a path, if there is one, is that of a file that is known
abbrev is_sent : Content → Option PathBytes → Bool
is_sent content None = true
is_sent content (Some path) = tells_file content path

first_known : (content : Content) (line : Line) (lines : List Line) → tells_imports content (line ∷ lines) ≡ (is_sent content (imported_path line.what) && tells_imports content lines)
first_known content line lines =
    elim (imported_path line.what) as (λ o. imported_path line.what ≡ o → tells_imports content (line ∷ lines) ≡ (is_sent content o && tells_imports content lines)) [
      | None ↦ λ is. rw is refl
      | Some path ↦ λ is. rw is refl
    ] refl

module _ (now offset : ℤ) where
  module _ (known : Option Content) (before after : ℕ) where
    asked_stands : (path : PathBytes) (answer : FileAnswer) → IsAsked known before after path answer → Stands (is_failed (named path (import_result offset answer))) before after
    asked_stands path (given entry bytes) asked = rw (quiet_named path (import entry bytes offset)) asked.0
    asked_stands path absent asked = asked.0
    asked_stands path failed fails = fails

    -- nothing is asked where no path is imported
    unasked : (o : Option ImportResult) → IsGivenBy offset known before after None o → after ≡ before
    unasked None kept = kept
    unasked (Some asked) none = absurd none

    given_stands : (ms : ℕ) (w : What) (o : Option ImportResult) → IsGivenBy offset known before after (imported_path w) o → Stands (passes is_failed (finding_of (action_at now offset ms w o))) before after
    given_stands ms (what.Import path) (Some asked) gives = rw gives.is (asked_stands path gives.answer gives.answers)
    given_stands ms (what.Import path) None none = absurd none
    given_stands ms (what.Put path text) o kept =
        rw (quiet_named path (import (record { path = path; size = length text; changed = moment_of now ms }) text offset)) (unasked o kept)
    given_stands ms (what.Remove path) o kept = unasked o kept
    given_stands ms (what.Query client number expr scope order batch) o kept = unasked o kept
    given_stands ms (what.Gather client number) o kept = unasked o kept
    given_stands ms (what.Poll client number) o kept = unasked o kept
    given_stands ms (what.Disable client number) o kept = unasked o kept
    given_stands ms (what.Enable client number) o kept = unasked o kept
    given_stands ms (what.Stop client number) o kept = unasked o kept
    given_stands ms (what.Show client number) o kept = unasked o kept
    given_stands ms (what.Vacuum client) o kept = unasked o kept

  all_stand : (known : Option Content) (before after : ℕ) (lines : List Line) (givens : List (Option ImportResult)) → AreGiven offset known before after lines givens
      → Stands (list_any is_failed (filter_map finding_of (actions_of now offset lines givens))) before after
  all_stand known before after [] [] kept = kept
  all_stand known before after [] (o ∷ givens) none = absurd none
  all_stand known before after (line ∷ lines) [] none = absurd none
  all_stand known before after (line ∷ lines) (o ∷ givens) turn =
      rw (first_passes is_failed (action_of now offset line o) (actions_of now offset lines givens))
      (stands_then (passes is_failed (finding_of (action_of now offset line o))) (list_any is_failed (filter_map finding_of (actions_of now offset lines givens))) before turn.0 after
      (given_stands known before turn.0 line.at_ms line.what o turn.1) (all_stand known turn.0 after lines givens turn.2))

  module _ (content : Content) where
    asked_present : (before after : ℕ) (path : PathBytes) (answer : FileAnswer) → IsAsked (Some content) before after path answer
        → is_absent (named path (import_result offset answer)) ≡ true → tells_file content path ≡ false
    asked_present before after path (given entry bytes) asked is = absurd (not_true _ (there_named path (import entry bytes offset)) is)
    asked_present before after path absent asked is = rw asked.1 refl
    asked_present before after path failed fails is = cc

    given_present : (before after ms : ℕ) (w : What) (o : Option ImportResult) → IsGivenBy offset (Some content) before after (imported_path w) o
        → passes is_absent (finding_of (action_at now offset ms w o)) ≡ true → is_sent content (imported_path w) ≡ false
    given_present before after ms (what.Import path) (Some asked) gives is =
        asked_present before after path gives.answer gives.answers (ap (λ (a : ImportResult). is_absent (named path a)) (sym gives.is) ∙ is)
    given_present before after ms (what.Import path) None none is = absurd none
    given_present before after ms (what.Put path text) o kept is =
        absurd (not_true _ (there_named path (import (record { path = path; size = length text; changed = moment_of now ms }) text offset)) is)
    given_present before after ms (what.Remove path) o kept is = cc
    given_present before after ms (what.Query client number expr scope order batch) o kept is = cc
    given_present before after ms (what.Gather client number) o kept is = cc
    given_present before after ms (what.Poll client number) o kept is = cc
    given_present before after ms (what.Disable client number) o kept is = cc
    given_present before after ms (what.Enable client number) o kept is = cc
    given_present before after ms (what.Stop client number) o kept is = cc
    given_present before after ms (what.Show client number) o kept is = cc
    given_present before after ms (what.Vacuum client) o kept is = cc

    all_present : (before after : ℕ) (lines : List Line) (givens : List (Option ImportResult)) → AreGiven offset (Some content) before after lines givens
        → list_any is_absent (filter_map finding_of (actions_of now offset lines givens)) ≡ true → tells_imports content lines ≡ false
    all_present before after [] [] kept is = cc
    all_present before after [] (o ∷ givens) none is = absurd none
    all_present before after (line ∷ lines) [] none is = absurd none
    all_present before after (line ∷ lines) (o ∷ givens) turn is =
        let here = passes is_absent (finding_of (action_of now offset line o)) in
        let there = list_any is_absent (filter_map finding_of (actions_of now offset lines givens)) in
        let some : (here || there) ≡ true = sym (first_passes is_absent (action_of now offset line o) (actions_of now offset lines givens)) ∙ is in
        let unstarted : (is_sent content (imported_path line.what) && tells_imports content lines) ≡ false =
        elim here as (λ b. here ≡ b → (is_sent content (imported_path line.what) && tells_imports content lines) ≡ false) [
          | true ↦ λ first. rw (given_present before turn.0 line.at_ms line.what o turn.1 first) refl
          | false ↦
              λ first.
              and_false (is_sent content (imported_path line.what)) (tells_imports content lines) (all_present turn.0 after lines givens turn.2 (or_true here there some first))
        ] refl in
        first_known content line lines ∙ unstarted

module _ (before after : ℕ) (now offset : ℤ) (lines : List Line) (report : FileReport) where
  pub runs_so : (known : Option Content) (givens : List (Option ImportResult)) → AreGiven offset known before after lines givens
      → report ≡ report_of_actions (actions_of now offset lines givens) → Runs known before after now offset lines report
  runs_so known givens gives is = record { givens = givens; given = gives; counted = are_given_counted offset known before after lines givens gives; is = is }

  pub headline_so : (known : Option Content) → Runs known before after now offset lines report → Headline known before after now offset lines report
  headline_so known runs = record { runs = runs; text = one_run (actions_of now offset lines runs.givens) report.out (ap (λ (r : FileReport). r.out) runs.is) }

  pub runs_cause : (known : Option Content) → Runs known before after now offset lines report → EndHasCause before after report.end
  runs_cause known runs =
      rw runs.is
      (ended_so before after (list_any is_failed (filter_map finding_of (actions_of now offset lines runs.givens))) (list_any is_absent (filter_map finding_of (actions_of now offset lines runs.givens)))
      (all_stand now offset known before after lines runs.givens runs.given))

  runs_present : (content : Content) → Runs (Some content) before after now offset lines report → report.end ≡ ended.Absent → tells_imports content lines ≡ false
  runs_present content runs is =
      all_present now offset content before after lines runs.givens runs.given
      (is_absent_end (list_any is_failed (filter_map finding_of (actions_of now offset lines runs.givens))) (list_any is_absent (filter_map finding_of (actions_of now offset lines runs.givens)))
      (ap (λ (r : FileReport). r.end) (sym runs.is) ∙ is))

  pub runs_absent : (known : Option Content) → Runs known before after now offset lines report → IfSome known (λ content. report.end ≡ ended.Absent → tells_imports content lines ≡ false)
  runs_absent None runs = tt
  runs_absent (Some content) runs = runs_present content runs

  pub runs_complete : (known : Option Content) → Runs known before after now offset lines report
      → IfSome known (λ content. tells_imports content lines ≡ true → ¬ (Rose before after) → report.end ≡ ended.Ok)
  runs_complete None runs = tt
  runs_complete (Some content) runs = λ known quiet. complete_end before after report.end (tells_imports content lines) (runs_cause (Some content) runs) (runs_present content runs) known quiet
