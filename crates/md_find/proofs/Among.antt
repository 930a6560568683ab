-- What is found among files that were gathered.
use Rattle.std.proofs.Common.{◌≡◌, ℕ, List, ◌++◌, refl, ◌∙◌, ap, subst, Option}
use Rattle.md_value.specs.Values.{PathBytes}
use Rattle.md_source.specs.Tree.{Content}
use Rattle.md_source.specs.declared.tree.Entry.{Entry}
use Rattle.md_world.specs.declared.Row.{Row}
use Rattle.md_world.specs.Differences.{paths_of}
use Rattle.md_match.specs.Conditions.{Condition}
use Rattle.md_machine.specs.declared.Spec.{Spec}
use Rattle.md_machine.specs.Answers.{condition_of, answer}
use Rattle.md_files.specs.Findings.{read_findings}
use Rattle.md_files.specs.Reports.{FileReport, report_of}
use Rattle.md_find.specs.declared.finding.Output.{Output}
use Rattle.md_find.specs.Files.{table_of}
use Rattle.md_find.specs.Finds.{found_text, FindsBy, FindsAmong}
use Rattle.md_find.proofs.Gathered.{passing, Gathers}

-- what passes a query's condition is the query's answer
passing_answer : (query : Spec) (rows : List Row) → passing (condition_of query) rows ≡ paths_of (answer query rows)
unfolding answer
passing_answer query rows = refl

module _ (known : Option Content) (before now : ℕ) (output : Output) (entries : List Entry) where
  -- the text of the hits' paths, and what became of each file
  pub found_by : (condition : Condition) (old new : FileReport) (found : List PathBytes) → Gathers known before now condition entries old found
      → (text : List ℕ) → text ≡ found_text output found → new ≡ record old { out = old.out ++ text } → FindsBy known before now condition output entries new
  found_by condition old new found gathers text is_text is_new =
      let findings = read_findings condition.offset entries gathers.answers in
      record {
        answers = gathers.answers;
        asked = gathers.asked;
        is = is_new ∙ ap (λ (r : FileReport). record r { out = r.out ++ text }) gathers.noted ∙ ap (λ (t : List ℕ). report_of t findings) (is_text ∙ ap (found_text output) gathers.found);
      }

  -- what is found by the condition of a query is found by the query
  pub among : (condition : Condition) (query : Spec) → condition ≡ condition_of query → (report : FileReport) → FindsBy known before now condition output entries report
      → FindsAmong known before now query output entries report
  among condition query is report found =
      let by = subst (λ (c : Condition). FindsBy known before now c output entries report) is found in
      let findings = read_findings query.offset entries by.answers in
      record {
        answers = by.answers;
        asked = by.asked;
        is = by.is ∙ ap (λ (paths : List PathBytes). report_of (found_text output paths) findings) (passing_answer query (table_of query.offset entries by.answers));
      }
