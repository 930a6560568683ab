-- What is asked and how a run ends, from what is made and what was put.
use Rattle.std.proofs.Common.{◌≡◌, ◌⊎◌, inl, inr, List, ℕ, ℤ, codes, refl, sym, ◌∙◌, ap, subst, Result, Ok, Err, Option, Some, None, IfOk, IsErr, arith}
use Rattle.md_expr_parse.specs.declared.read.ReadError.{ReadError}
use Rattle.md_expr_tree.specs.declared.tree.Expr.{Expr}
use Rattle.md_files.proofs.Turns.{none_so_far}
use Rattle.md_files.specs.Folders.AreFoundSoFar.{between_paths}
use Rattle.md_find.specs.Finds as search
use Rattle.md_find.specs.Folders.IsFolderSoFar.{without_failure as not_searched}
use Rattle.md_find.specs.declared.finding.SearchResult.{SearchResult}
use Rattle.md_find.specs.declared.finding.Output.{Output}
use Rattle.md_live.specs.TimeForms.{out_of_range}
use Rattle.md_script.specs.declared.script.Line.{Line}
use Rattle.md_script.specs.declared.script.ScriptError.{ScriptError}
use Rattle.md_script.specs.Scripts.{verdict}
use Rattle.md_value.specs.Values.{PathBytes}
use Rattle.md_words.specs.Grammar.{command_of}
use Rattle.md_words.specs.declared.command.Command.{Command}
use Rattle.md_words.specs.declared.command.Tool.{Tool}
use Rattle.md_words.specs.declared.command.Tool.TheVariants as tool
use Rattle.md_tool.specs.Causes.{TellsFirst, InputFails, OutputFails, IsReady, IsWhole}
use Rattle.md_tool.specs.Outside.{Shown, Files, Inputs, Outputs, IsRead, IsShown, Fails, ClockFails, TakesNothing, TakesWhole, TakesPart}
use Rattle.md_tool.specs.Reports.{Report, refusal, usage, no_clock, refused_script, refused_text, line_out_of_range, of_found}
use Rattle.md_tool.specs.Asking.{LinesAsk, ScriptAsks, Lives, Finds, ToolAsks, Leaves, LivesSoFar, AsksSoFar, CommandAsks, WordsAsk, Prints, Ends}
use Rattle.md_tool.specs.Asking.LinesAsk.{misdated}
use Rattle.md_tool.specs.Asking.ScriptAsks.{refuses as script_refuses, unclocked as script_unclocked, runs}
use Rattle.md_tool.specs.Asking.Lives.{unread, read}
use Rattle.md_tool.specs.Asking.Finds.{refuses as text_refuses, unclocked as text_unclocked, searches}
use Rattle.md_tool.specs.Asking.LivesSoFar.{without_failure as not_run}
use Rattle.md_tool.specs.Asking.WordsAsk.{misread, commands}
use Rattle.md_tool.specs.Asking.Prints.{whole, stopped_in_err, stopped_in_out}
use Rattle.md_tool.specs.Asking.Ends.{prints, no_memory}
use Rattle.md_tool.specs.declared.status.Status.{Status}
use Rattle.md_tool.specs.declared.status.Status.TheVariants as status

pub ok_then : {A E : Type 0} (P Q : A → Type 0) → ((x : A) → P x → Q x) → (r : Result A E) → IfOk r P → IfOk r Q
ok_then P Q f (Ok x) h = f x h
ok_then P Q f (Err e) h = h

pub err_then : {A E : Type 0} (Q : A → Type 0) (r : Result A E) → IsErr r → IfOk r Q
err_then Q (Ok x) h = cc
err_then Q (Err e) h = tt

module _ (now offset : ℤ) (lines : List Line) (old new : Files) where
  pub asks_misdated : (line form : ℕ) → out_of_range now offset lines ≡ Some (line, form) → new ≡ old → (p : Report) → p ≡ line_out_of_range line form
      → LinesAsk now offset lines old new p
  asks_misdated line form is same p e = subst (LinesAsk now offset lines old new) (sym e) (misdated line form is same)

module _ (offset : ℤ) (bytes : List ℕ) (clock shown : Shown) (old new : Files) where
  answers_same : (r : Report) → ScriptAsks offset bytes clock shown old new r → (p : Report) → p ≡ r → ScriptAsks offset bytes clock shown old new p
  answers_same r h p e = subst (ScriptAsks offset bytes clock shown old new) (sym e) h

  pub answers_refuses : (e : ScriptError) → verdict bytes ≡ Err e → shown ≡ clock → new ≡ old → (p : Report) → p ≡ refused_script e → ScriptAsks offset bytes clock shown old new p
  answers_refuses e is same kept = answers_same _ (script_refuses e is same kept)

  pub answers_unclocked : (lines : List Line) → verdict bytes ≡ Ok lines → ClockFails clock shown → new ≡ old → (p : Report) → p ≡ no_clock
      → ScriptAsks offset bytes clock shown old new p
  answers_unclocked lines is rose kept = answers_same _ (script_unclocked lines is rose kept)

  pub answers_runs : (lines : List Line) (now : ℤ) → verdict bytes ≡ Ok lines → IsShown clock shown now → (p : Report) → LinesAsk now offset lines old new p
      → ScriptAsks offset bytes clock shown old new p
  answers_runs lines now is shows p asks = runs lines now p is shows asks

module _ (offset : ℤ) (old new : Inputs) where
  pub lives_unread : Fails old.script new.script → new.clock ≡ old.clock → new.tree ≡ old.tree
      → (p : Report) → p ≡ refusal status.ReadFault (codes "script could not be read") → Lives offset old new p
  lives_unread rose clock tree p e = subst (Lives offset old new) (sym e) (unread rose clock tree)

  pub lives_read : (bytes : List ℕ) (r : Report) → IsRead old.script new.script bytes → ScriptAsks offset bytes old.clock new.clock old.tree new.tree r → Lives offset old new r
  lives_read bytes r is answers = read bytes r is answers

module _ (offset : ℤ) (output : Output) (scope : PathBytes) (query : Result Expr ReadError) (old new : Inputs) where
  finds_same : (r : Report) → Finds offset output scope query old new r → (p : Report) → p ≡ r → Finds offset output scope query old new p
  finds_same r h p e = subst (Finds offset output scope query old new) (sym e) h

  pub finds_refuses : (e : ReadError) → query ≡ Err e → new ≡ old → (p : Report) → p ≡ refused_text e → Finds offset output scope query old new p
  finds_refuses e is same = finds_same _ (text_refuses e is same)

  pub finds_unclocked : (expr : Expr) → query ≡ Ok expr → ClockFails old.clock new.clock → new.tree ≡ old.tree → new.script ≡ old.script → (p : Report) → p ≡ no_clock
      → Finds offset output scope query old new p
  finds_unclocked expr is rose tree script = finds_same _ (text_unclocked expr is rose tree script)

  pub finds_searches : (expr : Expr) (now : ℤ) (made : SearchResult) → query ≡ Ok expr → IsShown old.clock new.clock now
      → search.Finds old.tree.known old.tree.failures new.tree.failures (record { expr = expr; local = record { moment = now; offset = offset }; scope = scope }) output made
      → new.tree.known ≡ old.tree.known → new.script ≡ old.script → (p : Report) → p ≡ of_found made → Finds offset output scope query old new p
  finds_searches expr now made is shows found tree script = finds_same _ (searches expr now made is shows found tree script)

-- a tool that is the run of a script asks and tells as that does
pub live_asks : (offset : ℤ) (what : Tool) (workers : Option ℕ) (old new : Inputs) → what ≡ tool.Live workers → workers ≡ None → (r : Report) → Lives offset old new r → ToolAsks offset old new what r
live_asks offset what workers old new is none r h = subst (λ w. ToolAsks offset old new w r) (sym (is ∙ ap tool.Live none)) h

pub live_tells_first : (offset : ℤ) (what : Tool) (workers : Option ℕ) (old new : Inputs) → what ≡ tool.Live workers → workers ≡ None → (answer : Status)
    → TellsFirst offset (tool.Live None) old new answer → TellsFirst offset what old new answer
live_tells_first offset what workers old new is none answer h = subst (λ w. TellsFirst offset w old new answer) (sym (is ∙ ap tool.Live none)) h

module _ (before after : Outputs) (r : Report) (err_text out_text : List ℕ) (err_is : err_text ≡ r.err) (out_is : out_text ≡ r.out) where
  pub prints_whole : TakesWhole before.err after.err err_text → TakesWhole before.out after.out out_text → Prints r before after r.status
  prints_whole e o = whole (subst (TakesWhole before.err after.err) err_is e) (subst (TakesWhole before.out after.out) out_is o)

  pub prints_part : (TakesPart before.err after.err err_text × TakesNothing before.out after.out) ⊎ (TakesWhole before.err after.err err_text × TakesPart before.out after.out out_text)
      → Prints r before after status.WriteFault
  prints_part (inl h) = stopped_in_err (subst (TakesPart before.err after.err) err_is h.0) h.1
  prints_part (inr h) = stopped_in_out (subst (TakesWhole before.err after.err) err_is h.0) (subst (TakesPart before.out after.out) out_is h.1)

module _ {E : Type 0} (Asks : Report → Type 0) (before after : Outputs) (answer : Status) where
  -- a report that is asked was put, or there was none
  pub ends_of : (r : Result Report E) → IfOk r Asks → IfOk r (λ report. Prints report before after answer)
      → (IsErr r → (answer ≡ status.Memory) × TakesNothing before.err after.err × TakesNothing before.out after.out) → Ends Asks before after answer
  ends_of (Ok report) asks put none = prints report answer asks put
  ends_of (Err e) asks put none = let ran_out = none refl in subst (Ends Asks before after) (sym ran_out.0) (no_memory ran_out.1 ran_out.2)

-- words that are not understood ask for that to be said
pub asks_usage : (words : List (List ℕ)) (old : Inputs) → command_of words ≡ None → (report : Report) → report ≡ usage → WordsAsk words old old report
asks_usage words old is report e = subst (WordsAsk words old old) (sym e) (misread is refl)

-- a run that ends as its command asks ends as the words that read as the command ask
pub ends_words : (words : List (List ℕ)) (old new : Inputs) (before after : Outputs) (command : Command) → command_of words ≡ Some command
    → (answer : Status) → Ends (CommandAsks command old new) before after answer → Ends (WordsAsk words old new) before after answer
ends_words words old new before after command is _ (prints r answer asks h) = prints r answer (commands command r is asks) h
ends_words words old new before after command is _ (no_memory e o) = no_memory e o

-- where nothing is asked, all stays
pub leaves_same : (what : Tool) (old : Inputs) → Leaves what old old
leaves_same (tool.Find zero count scope name mode text) old = ((refl, omega arith), refl)
leaves_same (tool.Show raw marker names files) old = ((refl, omega arith), refl, refl)
leaves_same (tool.Import files) old = ((refl, omega arith), refl, refl)
leaves_same tool.Importers old = refl
leaves_same tool.Attributes old = refl
leaves_same (tool.Live workers) old = (refl, omega arith)
leaves_same (tool.Gen start count) old = refl

-- what a command leaves is left where the words read as it
pub leaves_words : (words : List (List ℕ)) (old new : Inputs) (parsed : Command) → command_of words ≡ Some parsed → Leaves parsed.what old new
    → (command : Command) → command_of words ≡ Some command → Leaves command.what old new
leaves_words words old new parsed is leaves command known =
    let same : Some parsed ≡ Some command = sym is ∙ known in
    let parsed_same : parsed ≡ command = cc (same) in
    subst (λ c. Leaves c.what old new) parsed_same leaves

-- where nothing is asked, no call on the tree failed
pub so_far_same : (offset : ℤ) (what : Tool) (old : Inputs) → AsksSoFar offset what old old
so_far_same offset (tool.Find zero count scope name mode text) old = not_searched refl
so_far_same offset (tool.Show raw marker names files) old = none_so_far _ old.tree.failures old.tree.failures files refl
so_far_same offset (tool.Import files) old = between_paths (none_so_far _ old.tree.failures old.tree.failures files refl)
so_far_same offset tool.Importers old = refl
so_far_same offset tool.Attributes old = refl
so_far_same offset (tool.Live workers) old = not_run refl
so_far_same offset (tool.Gen start count) old = refl

-- what a command asks of the tree is asked where the words read as it
pub so_far_words : (words : List (List ℕ)) (old new : Inputs) (parsed : Command) → command_of words ≡ Some parsed → AsksSoFar parsed.offset parsed.what old new
    → (command : Command) → command_of words ≡ Some command → AsksSoFar command.offset command.what old new
so_far_words words old new parsed is so_far command known =
    let same : Some parsed ≡ Some command = sym is ∙ known in
    let parsed_same : parsed ≡ command = cc (same) in
    subst (λ c. AsksSoFar c.offset c.what old new) parsed_same so_far

-- a tool that is the run of a script asks the tree so far as that does
pub live_so_far : (offset : ℤ) (what : Tool) (workers : Option ℕ) (old new : Inputs) → what ≡ tool.Live workers → LivesSoFar offset old new → AsksSoFar offset what old new
live_so_far offset what workers old new is h = subst (λ w. AsksSoFar offset w old new) (sym is) h

-- what holds where the needs of a command are met holds of the words that read as it
pub complete_words : (words : List (List ℕ)) (old new : Inputs) (before after : Outputs) (answer : Status) (parsed : Command) → command_of words ≡ Some parsed
    → (IsReady parsed.offset old parsed.what → ¬ (InputFails old new) → ¬ (OutputFails before after) → (answer ≡ status.Memory) ⊎ IsWhole parsed.what new answer)
    → (command : Command) → command_of words ≡ Some command
    → IsReady command.offset old command.what → ¬ (InputFails old new) → ¬ (OutputFails before after) → (answer ≡ status.Memory) ⊎ IsWhole command.what new answer
complete_words words old new before after answer parsed is complete command known =
    let same : Some parsed ≡ Some command = sym is ∙ known in
    let parsed_same : parsed ≡ command = cc (same) in
    subst (λ c. IsReady c.offset old c.what → ¬ (InputFails old new) → ¬ (OutputFails before after) → (answer ≡ status.Memory) ⊎ IsWhole c.what new answer) parsed_same complete
