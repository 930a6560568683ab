-- The jobs of lines, and of one line more.
use Rattle.std.proofs.Common.{◌≡◌, ℕ, ◌+◌, ◌≤◌, ℤ, List, [], ◌∷◌, ◌++◌, length, length-append, map, refl, sym, ◌∙◌, ap, subst, arith, Option, None, Some}
use Rattle.std.specs.List.{zip, filter_map, cons_option}
use Rattle.std.specs.Option.{option_map, option_to_list}
use Rattle.std.proofs.lemmas.List.{map-append}
use Rattle.md_value.specs.Values.{PathBytes}
use Rattle.md_source.specs.Tree.{Content}
use Rattle.md_files.specs.FileAnswers.{IsAsked}
use Rattle.md_files.specs.declared.asking.ImportResult.{ImportResult}
use Rattle.md_files.proofs.Turns.{in_turn_more, zip_more}
use Rattle.md_script.specs.declared.script.Line.{Line}
use Rattle.md_script.specs.declared.script.What.TheVariants as what
use Rattle.md_live.specs.Actions.{Action, action_at, action_of, actions_of}
use Rattle.md_live.specs.Actions.Action.{job}
use Rattle.md_live.specs.Given.{IsGiven, IsGivenBy, AreGiven, imported_path}
use Rattle.md_jobs.specs.declared.source.ScriptJob.{ScriptJob}
use Rattle.md_jobs.specs.declared.source.FileSource.{FileSource}
use Rattle.md_jobs.specs.declared.source.Task.TheVariants as task
use Rattle.md_jobs.specs.Sources.{answer_of, given_by, action_in}
use Rattle.md_jobs.specs.Reading.{job_action, Makes, Reads}

-- a filter of a list and one item more
filter_map_more : {A B : Type 0} (f : A → Option B) (xs : List A) (x : A) → filter_map f (xs ++ x ∷ []) ≡ filter_map f xs ++ option_to_list (f x)
filter_map_more f [] x = one (f x)
  where
    one : {B : Type 0} (o : Option B) → cons_option o [] ≡ option_to_list o
    one None = refl
    one (Some y) = refl
filter_map_more f (y ∷ xs) x = ap (cons_option (f y)) (filter_map_more f xs x) ∙ front (f y) (filter_map f xs) (option_to_list (f x))
  where
    front : {B : Type 0} (o : Option B) (ys zs : List B) → cons_option o (ys ++ zs) ≡ cons_option o ys ++ zs
    front None ys zs = refl
    front (Some y) ys zs = refl

map_option : {A B : Type 0} (f : A → B) (o : Option A) → map f (option_to_list o) ≡ option_to_list (option_map f o)
map_option f None = refl
map_option f (Some x) = refl

actions_more : (known : Option Content) (before after : ℕ) (now offset : ℤ) (lines : List Line) (givens : List (Option ImportResult)) (line : Line) (given : Option ImportResult)
    → AreGiven offset known before after lines givens
    → actions_of now offset (lines ++ line ∷ []) (givens ++ given ∷ []) ≡ actions_of now offset lines givens ++ action_of now offset line given ∷ []
actions_more known before after now offset lines givens line given asked =
    ap (map (λ pair. action_of now offset pair.0 pair.1)) (zip_more (IsGiven offset known) before after lines givens line given asked)
    ∙ map-append (λ pair. action_of now offset pair.0 pair.1) (zip lines givens) ((line, given) ∷ [])

pub no_lines : (known : Option Content) (before : ℕ) (now offset : ℤ) → Reads known before before now offset [] []
no_lines known before now offset = record { givens = []; given = refl; is = refl }

pub reads_more : (known : Option Content) (before between after : ℕ) (now offset : ℤ) (lines : List Line) (jobs : List ScriptJob) (line : Line) (made : Option ScriptJob)
    → Reads known before between now offset lines jobs → Makes known between after now offset line made → Reads known before after now offset (lines ++ line ∷ []) (jobs ++ option_to_list made)
reads_more known before between after now offset lines jobs line made so makes =
    record {
      givens = so.givens ++ makes.given ∷ [];
      given = in_turn_more (IsGiven offset known) before between after lines so.givens line makes.given so.given makes.is_given;
      is = map-append (action_in offset) jobs (option_to_list made)
          ∙ ap (λ rest. map (action_in offset) jobs ++ rest) (map_option (action_in offset) made)
          ∙ ap (λ (front : List Action). front ++ option_to_list (option_map (action_in offset) made)) so.is
          ∙ ap (λ o. filter_map job_action (actions_of now offset lines so.givens) ++ option_to_list o) makes.is
          ∙ sym (filter_map_more job_action (actions_of now offset lines so.givens) (action_of now offset line makes.given))
          ∙ ap (filter_map job_action) (sym (actions_more known before between now offset lines so.givens line makes.given so.given));
    }

-- the job of a line that imports a file
pub import_made : (known : Option Content) (before after : ℕ) (now offset : ℤ) (line : Line) (path copied : PathBytes) (source : FileSource)
    → line.what ≡ what.Import path → copied ≡ path → IsAsked known before after path (answer_of source)
    → Makes known before after now offset line (Some (record { path = copied; task = task.Put source }))
import_made known before after now offset line path copied source says same asked =
    let given : ImportResult = given_by offset source in
    record {
      given = Some given;
      is_given = subst (λ w. IsGivenBy offset known before after (imported_path w) (Some given)) (sym says) (record { answer = answer_of source; answers = asked; is = refl });
      is = ap (λ p. Some (job p given)) same ∙ sym (ap (λ w. job_action (action_at now offset line.at_ms w (Some given))) says);
    }

-- one job more at most
pub kept_few : (jobs : List ScriptJob) (made : Option ScriptJob) (new : List ScriptJob) (i : ℕ) → length jobs ≤ i → new ≡ jobs ++ option_to_list made → length new ≤ i + 1
kept_few jobs None new i few is = omega (arith, few, ap length is, length-append jobs [])
kept_few jobs (Some j) new i few is = omega (arith, few, ap length is, length-append jobs (j ∷ []))
