-- The headline: what is printed of a script is the text of one run of the machine, in which what each client holds is an
-- answer.
use Rattle.std.specs.Prelude.{◌≡◌, ℕ, ℤ, Bool, true, false, List, [], ◌∷◌, ◌++◌, Option, filter}
use Rattle.md_world.specs.Orders.{in_order}
use Rattle.md_world.specs.Limits.{standard}
use Rattle.md_source.specs.Tree.{Content}
use Rattle.md_machine.specs.Answers.{shown_answer}
use Rattle.md_machine.specs.Laws.{IsLive, BaseIsNamed, HeldIsAnswer, NumbersGoOn, NoticesAreExact, hits_given}
use Rattle.md_machine.specs.States.{Query, State}
use Rattle.md_machine.specs.Runs.{Entry, run, entries}
use Rattle.md_machine.specs.declared.Event.{Event}
use Rattle.md_render.specs.Texts.{journal_text, held_text}
use Rattle.md_files.specs.Reports.{FileReport}
use Rattle.md_script.specs.declared.script.Line.{Line}
use Rattle.md_live.specs.Actions.{Action, actions_of}
use Rattle.md_live.specs.Actions.Action.{show}
use Rattle.md_live.specs.Events.{events_of, entries_from, run_events}
use Rattle.md_live.specs.Texts.{action_text, run_text}
use Rattle.md_live.specs.Reports.{Runs}

-- the events of what was done so far, each beside its reply in one run
abbrev pub entries_of : List Action → List Entry
entries_of done = entries standard (run_events done)

-- the state that they lead to
abbrev pub state_of : List Action → State
state_of done = (run standard (run_events done)).last

-- whether the server gets it: of all but the showing of what a client holds
abbrev pub is_sent : Action → Bool
is_sent (show client number) = false
is_sent _ = true

-- After these events the client of a live query holds an answer.
pub record HoldsAnswer (events : List Event) (q : Query) : Type 0 where
  -- The query's base is the version that was named to the client last, and is a committed one.
  pub base : BaseIsNamed standard events q
  -- What the client holds is the hits given so far of the expression's answer on the base, from scratch; once finished, all.
  pub held : HeldIsAnswer standard events q
  -- No version that was named is earlier than one before it.
  pub numbers : NumbersGoOn standard events q
  -- Each notice lists exactly what differs between its two versions.
  pub notices : NoticesAreExact standard events q

-- What is done next goes on with the run and with the text.
pub record GoesOn (done : List Action) (action : Action) : Type 0 where
  -- Its events are those in the state that the run has led to, and their entries come behind the entries so far.
  pub next_entries : entries_of (done ++ action ∷ []) ≡ entries_of done ++ entries_from (state_of done) (events_of (state_of done) action)
  -- Behind the text so far stands the text of these entries, or that of what the client holds by the entries so far.
  pub next_text : run_text (done ++ action ∷ []) ≡ run_text done ++ action_text (entries_of done) (state_of done) action

-- Where a live query is shown, the hits given so far of its answer on the base are printed, in its order.
abbrev pub IsShown : List Action → Query → Type 0
IsShown done q =
    run_text (done ++ show q.client q.number ∷ []) ≡ run_text done ++ held_text q.client q.number q.base (in_order q.spec.order (hits_given q.phase (shown_answer q.spec q.rows)))

-- The text is that of one run of the machine, over the events of what is done.
pub record IsOneRun (actions : List Action) (text : List ℕ) : Type 0 where
  pub whole : text ≡ run_text actions
  -- At each prefix of what is done the text, but for what is shown, is that of the run's entries so far.
  pub journal : (done rest : List Action) → actions ≡ done ++ rest → run_text (filter is_sent done) ≡ journal_text 1 (entries_of done)
  -- What is done next goes on with the run and with the text.
  pub goes_on : (done rest : List Action) (action : Action) → actions ≡ done ++ action ∷ rest → GoesOn done action
  -- What is shown of a live query is its answer.
  pub shown : (done rest : List Action) (q : Query) → actions ≡ done ++ show q.client q.number ∷ rest → IsLive standard (run_events done) q → IsShown done q
  -- After each prefix of the events the client of each live query holds an answer.
  pub follows : (before rest : List Event) (q : Query) → run_events actions ≡ before ++ rest → IsLive standard before q → HoldsAnswer before q

-- The headline: the report is of a run of these lines, and its text for out is that of one run of the machine.
pub record Headline (known : Option Content) (before after : ℕ) (now offset : ℤ) (lines : List Line) (report : FileReport) : Type 0 where
  pub runs : Runs known before after now offset lines report
  pub text : IsOneRun (actions_of now offset lines runs.givens) report.out
