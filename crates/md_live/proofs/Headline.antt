-- What is printed of a script is the text of one run of the machine.
use Rattle.std.proofs.Common.{◌≡◌, ℕ, ◌+◌, List, [], ◌∷◌, ◌++◌, length, filter, refl, sym, ◌∙◌, ap, arith, append_assoc, append-nil, length-append}
use Rattle.md_world.specs.Orders.{in_order}
use Rattle.md_world.specs.declared.Row.{Row}
use Rattle.md_world.specs.Limits.{standard}
use Rattle.md_machine.specs.Laws.{IsLive}
use Rattle.md_machine.specs.States.{Query, State, opening}
use Rattle.md_machine.specs.Runs.{Entry, run_from, entries}
use Rattle.md_machine.specs.declared.Event.{Event}
use Rattle.md_machine.proofs.Joining.{last-join, entries-join}
use Rattle.md_machine.proofs.Law.{base_is_named, held_is_answer, numbers_go_on, notices_are_exact}
use Rattle.md_render.proofs.Joined.{journal_text-append}
use Rattle.md_render.specs.Texts.{journal_text, held_text}
use Rattle.md_live.specs.Actions.{Action}
use Rattle.md_live.specs.Actions.Action.{job, removal, query, show}
use Rattle.md_live.specs.Events.{events_of, events_from, entries_from, run_events}
use Rattle.md_live.specs.Texts.{action_text, shown_text, text_from, run_text}
use Rattle.md_live.specs.Headline.{entries_of, state_of, is_sent, HoldsAnswer, GoesOn, IsShown, IsOneRun}

-- the state after all that is done, from a state on
abbrev after : State → List Action → State
after s actions = (run_from s (events_from s actions)).last

-- the entries of all that is done, behind those so far
abbrev with_entries : List Entry → State → List Action → List Entry
with_entries all s actions = all ++ entries_from s (events_from s actions)

events_join : (s : State) (xs ys : List Action) → events_from s (xs ++ ys) ≡ events_from s xs ++ events_from (after s xs) ys
events_join s [] ys = refl
events_join s (x ∷ xs) ys =
    let more = events_of s x in
    let next = (run_from s more).last in
    ap (λ (es : List Event). more ++ es) (events_join next xs ys)
    ∙ sym (append_assoc more (events_from next xs) (events_from (after next xs) ys))
    ∙ ap (λ (t : State). (more ++ events_from next xs) ++ events_from t ys) (sym (last-join s more (events_from next xs)))

-- the entries of one thing more and of the rest
with_more : (all : List Entry) (s : State) (x : Action) (xs : List Action)
    → with_entries (all ++ entries_from s (events_of s x)) (run_from s (events_of s x)).last xs ≡ with_entries all s (x ∷ xs)
with_more all s x xs =
    let more = events_of s x in
    let next = (run_from s more).last in
    append_assoc all (entries_from s more) (entries_from next (events_from next xs))
    ∙ ap (λ (es : List Entry). all ++ es) (sym (entries-join s more (events_from next xs)))

text_join : (all : List Entry) (s : State) (xs ys : List Action) → text_from all s (xs ++ ys) ≡ text_from all s xs ++ text_from (with_entries all s xs) (after s xs) ys
text_join all s [] ys = ap (λ (es : List Entry). text_from es s ys) (sym (append-nil all))
text_join all s (x ∷ xs) ys =
    let more = events_of s x in
    let next = (run_from s more).last in
    let here = all ++ entries_from s more in
    ap (λ (text : List ℕ). action_text all s x ++ text) (text_join here next xs ys)
    ∙ sym (append_assoc (action_text all s x) (text_from here next xs) (text_from (with_entries here next xs) (after next xs) ys))
    ∙ ap (λ (es : List Entry). (action_text all s x ++ text_from here next xs) ++ text_from es (after next xs) ys) (with_more all s x xs)
    ∙ ap (λ (t : State). (action_text all s x ++ text_from here next xs) ++ text_from (with_entries all s (x ∷ xs)) t ys) (sym (last-join s more (events_from next xs)))

-- the text of one thing more that is known, before that of the rest
known_then : (all : List Entry) (s : State) (x : Action) (xs : List Action)
    → text_from (all ++ entries_from s (events_of s x)) (run_from s (events_of s x)).last (filter is_sent xs)
    ≡ journal_text (1 + length (all ++ entries_from s (events_of s x))) (entries_from (run_from s (events_of s x)).last (events_from (run_from s (events_of s x)).last xs))
    → journal_text (1 + length all) (entries_from s (events_of s x)) ++ text_from (all ++ entries_from s (events_of s x)) (run_from s (events_of s x)).last (filter is_sent xs)
    ≡ journal_text (1 + length all) (entries_from s (events_from s (x ∷ xs)))
known_then all s x xs rest =
    let more = events_of s x in
    let next = (run_from s more).last in
    let first = entries_from s more in
    let then = entries_from next (events_from next xs) in
    let place : 1 + length (all ++ first) ≡ 1 + length all + length first = omega (arith, length-append all first) in
    ap (λ (text : List ℕ). journal_text (1 + length all) first ++ text) (rest ∙ ap (λ (p : ℕ). journal_text p then) place)
    ∙ sym (journal_text-append (1 + length all) first then)
    ∙ ap (journal_text (1 + length all)) (sym (entries-join s more (events_from next xs)))

-- but for what is shown, the text is that of the entries
known_text : (all : List Entry) (s : State) (actions : List Action) → text_from all s (filter is_sent actions) ≡ journal_text (1 + length all) (entries_from s (events_from s actions))
known_text all s [] = refl
known_text all s (job path given ∷ actions) =
    known_then all s (job path given) actions (known_text (all ++ entries_from s (events_of s (job path given))) (run_from s (events_of s (job path given))).last actions)
known_text all s (removal path ∷ actions) =
    known_then all s (removal path) actions (known_text (all ++ entries_from s (events_of s (removal path))) (run_from s (events_of s (removal path))).last actions)
known_text all s (query event ∷ actions) =
    known_then all s (query event) actions (known_text (all ++ entries_from s (event ∷ [])) (run_from s (event ∷ [])).last actions)
known_text all s (show client number ∷ actions) = known_text all s actions

goes_on : (done : List Action) (action : Action) → GoesOn done action
goes_on done action =
    let s = state_of done in
    let more = events_of s action in
    let events : run_events (done ++ action ∷ []) ≡ run_events done ++ more =
    events_join (opening standard) done (action ∷ []) ∙ ap (λ (es : List Event). run_events done ++ es) (append-nil more) in
    record {
      next_entries = ap (entries standard) events ∙ entries-join (opening standard) (run_events done) more;
      next_text = text_join [] (opening standard) done (action ∷ []) ∙ ap (λ (text : List ℕ). run_text done ++ text) (append-nil (action_text (entries_of done) s action));
    }

is_shown : (done : List Action) (q : Query) → IsLive standard (run_events done) q → IsShown done q
is_shown done q live =
    let shows = held_text q.client q.number q.base in
    let found = ap (shown_text (entries_of done) q.client q.number) live in
    let answer = ap (λ (rows : List Row). shows (in_order q.spec.order rows)) (held_is_answer standard (run_events done) q live) in
    (goes_on done (show q.client q.number)).next_text ∙ ap (λ (text : List ℕ). run_text done ++ text) (found ∙ answer)

holds_answer : (events : List Event) (q : Query) → IsLive standard events q → HoldsAnswer events q
holds_answer events q live =
    record {
      base = base_is_named standard events q live;
      held = held_is_answer standard events q live;
      numbers = numbers_go_on standard events q live;
      notices = notices_are_exact standard events q live;
    }

-- what is printed of all that is done is the text of one run
pub one_run : (actions : List Action) (text : List ℕ) → text ≡ run_text actions → IsOneRun actions text
one_run actions text is =
    record {
      whole = is;
      journal = λ done rest split. known_text [] (opening standard) done;
      goes_on = λ done rest action split. goes_on done action;
      shown = λ done rest q split live. is_shown done q live;
      follows = λ before rest q split live. holds_answer before q live;
    }
