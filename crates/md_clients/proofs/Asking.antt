-- What one client asks by lines, and what all ask.
use Rattle.std.proofs.Common.{◌≡◌, ℕ, ℤ, Bool, true, false, List, [], ◌∷◌, ◌++◌, refl, ◌∙◌, ap, Option, None, Some}
use Rattle.std.specs.Prelude.{filter, if◌then◌else◌}
use Rattle.std.specs.List.{cons_option}
use Rattle.std.specs.Option.{option_to_list}
use Rattle.md_source.specs.Tree.{Content}
use Rattle.md_files.specs.declared.asking.ImportResult.{ImportResult}
use Rattle.md_machine.specs.declared.Event.{Event}
use Rattle.md_merge.specs.Journals.{is_by}
use Rattle.md_script.specs.declared.script.Line.{Line}
use Rattle.md_script.specs.declared.script.What.{What}
use Rattle.md_script.specs.declared.script.What.TheVariants as what
use Rattle.md_live.specs.Actions.{action_at, actions_of}
use Rattle.md_live.specs.Given.{AreGiven}
use Rattle.md_jobs.specs.Scripts.{ask_of, asks_of}
use Rattle.md_clients.specs.Asks.{line_ask, asks_in, if_by, asker, is_asker}

-- what a client asks by a line is what the line asks, where the client is its asker
if_asked_at : (now offset : ℤ) (ms id : ℕ) (w : What) → if_by id (ask_of (action_at now offset ms w None)) ≡ (if is_asker id (asker w) then ask_of (action_at now offset ms w None) else None)
if_asked_at now offset ms id (what.Put path text) = refl
if_asked_at now offset ms id (what.Import path) = refl
if_asked_at now offset ms id (what.Remove path) = refl
if_asked_at now offset ms id (what.Query client number expr scope order batch) = refl
if_asked_at now offset ms id (what.Gather client number) = refl
if_asked_at now offset ms id (what.Poll client number) = refl
if_asked_at now offset ms id (what.Disable client number) = refl
if_asked_at now offset ms id (what.Enable client number) = refl
if_asked_at now offset ms id (what.Stop client number) = refl
if_asked_at now offset ms id (what.Show client number) = refl
if_asked_at now offset ms id (what.Vacuum client) = refl

pub if_asked : (now offset : ℤ) (id : ℕ) (line : Line) → if_by id (line_ask now offset line) ≡ (if is_asker id (asker line.what) then line_ask now offset line else None)
if_asked now offset id line = if_asked_at now offset line.at_ms id line.what

-- what is given is no matter of what is asked
ask_at : (now offset : ℤ) (ms : ℕ) (w : What) (given : Option ImportResult) → ask_of (action_at now offset ms w given) ≡ ask_of (action_at now offset ms w None)
ask_at now offset ms (what.Put path text) given = refl
ask_at now offset ms (what.Import path) given = refl
ask_at now offset ms (what.Remove path) given = refl
ask_at now offset ms (what.Query client number expr scope order batch) given = refl
ask_at now offset ms (what.Gather client number) given = refl
ask_at now offset ms (what.Poll client number) given = refl
ask_at now offset ms (what.Disable client number) given = refl
ask_at now offset ms (what.Enable client number) given = refl
ask_at now offset ms (what.Stop client number) given = refl
ask_at now offset ms (what.Show client number) given = refl
ask_at now offset ms (what.Vacuum client) given = refl

-- what the clients ask by what is done is what they ask by its lines
pub asks_are : (known : Option Content) (before after : ℕ) (now offset : ℤ) (lines : List Line) (givens : List (Option ImportResult))
    → AreGiven offset known before after lines givens → asks_of (actions_of now offset lines givens) ≡ asks_in now offset lines
asks_are known before after now offset [] [] given = refl
asks_are known before after now offset [] (g ∷ givens) given = refl
asks_are known before after now offset (line ∷ lines) [] given = absurd given
asks_are known before after now offset (line ∷ lines) (g ∷ givens) given =
    ap (λ ask. cons_option ask (asks_of (actions_of now offset lines givens))) (ask_at now offset line.at_ms line.what g)
    ∙ ap (cons_option (line_ask now offset line)) (asks_are known given.0 after now offset lines givens given.2)

kept : (id : ℕ) (event : Event) (b : Bool) → is_by id event ≡ b → (events : List Event) → filter (is_by id) (event ∷ events) ≡ cons_option (if b then Some event else None) (filter (is_by id) events)
kept id event true is events = rw is refl
kept id event false is events = rw is refl

kept_option : (id : ℕ) (ask : Option Event) (events : List Event) → filter (is_by id) (cons_option ask events) ≡ cons_option (if_by id ask) (filter (is_by id) events)
kept_option id None events = refl
kept_option id (Some event) events = kept id event (is_by id event) refl events

-- what one client asks by a line and more lines
pub asked_by : (now offset : ℤ) (id : ℕ) (line : Line) (lines : List Line)
    → filter (is_by id) (asks_in now offset (line ∷ lines)) ≡ option_to_list (if_by id (line_ask now offset line)) ++ filter (is_by id) (asks_in now offset lines)
asked_by now offset id line lines = kept_option id (line_ask now offset line) (asks_in now offset lines) ∙ joined (if_by id (line_ask now offset line)) (filter (is_by id) (asks_in now offset lines))
  where
    joined : (ask : Option Event) (events : List Event) → cons_option ask events ≡ option_to_list ask ++ events
    joined None events = refl
    joined (Some event) events = refl
