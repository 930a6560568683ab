-- what is reported of all that the lines do is the report of the run.
use Rattle.std.proofs.Common.{◌≡◌, ◌⊎◌, inl, inr, ℕ, ℤ, ◌+◌, ◌≤◌, List, [], ◌∷◌, ◌++◌, length, refl, sym, ◌∙◌, ap, arith, append_assoc, append-nil, length-append, Option, Some, None}
use Rattle.std.specs.List.{filter_map, flat_map}
use Rattle.std.proofs.lemmas.List.Elements.{filter_map-append}
use Rattle.std.proofs.lemmas.List.Sums.{sum_by-append}
use Rattle.md_value.specs.Values.{PathBytes}
use Rattle.md_world.specs.declared.Change.{Change}
use Rattle.md_world.specs.declared.Change.TheVariants as change
use Rattle.md_world.specs.declared.Notice.{Notice}
use Rattle.md_world.specs.Limits.{standard}
use Rattle.md_machine.specs.declared.Event.{Event}
use Rattle.md_machine.specs.declared.Event.TheVariants as event
use Rattle.md_machine.specs.declared.Reply.{Reply}
use Rattle.md_machine.specs.declared.Reply.TheVariants as reply
use Rattle.md_machine.specs.States.{State, opening, query_at}
use Rattle.md_machine.specs.Steps.{step}
use Rattle.md_machine.specs.Runs.{Entry, run_from, run, entries}
use Rattle.md_machine.proofs.Joining.{last-join, replies-join, entries-join, length-entries}
use Rattle.md_render.specs.Texts.{journal_text}
use Rattle.md_files.specs.Additions.{no_report, worse, noted}
use Rattle.md_files.specs.Findings.{Finding, end_of, err_line}
use Rattle.md_files.specs.Findings.Finding.{named}
use Rattle.md_files.specs.Reports.{FileReport}
use Rattle.md_files.specs.declared.asking.ImportResult.{ImportResult}
use Rattle.md_files.specs.declared.report.End.{End}
use Rattle.md_files.proofs.Additions.{counted_none, counted_more}
use Rattle.md_script.specs.declared.script.Line.{Line}
use Rattle.md_live.specs.Actions.{Action, actions_of, change_of}
use Rattle.md_live.specs.Actions.Action.{job, removal, query, show}
use Rattle.md_live.specs.Events.{after_commit, end_of as ticket_events, after_draw, job_events, events_of, entries_from}
use Rattle.md_live.specs.Texts.{shown_text, text_from}
use Rattle.md_live.specs.Reports.{finding_of, report_of_actions}
use Rattle.md_live.specs.Tallies.{notice_of, counted, tally_of, both}
use Rattle.md_live.specs.Telling.{Telling, unstarted, with_text, after_events, after_action, after_actions}
use Rattle.md_live.specs.declared.tally.Tally.{Tally}
use Rattle.md_live.proofs.Holding.{shown_so}

abbrev pub telling : State → FileReport → ℕ → Tally → Telling
telling state report next tally = record { state = state; report = report; next = next; tally = tally }

-- a server that events led to from the opening state, with a report
abbrev pub led : List Event → FileReport → Telling
led events report = telling (run standard events).last report (1 + length events) (tally_of (run standard events).replies)

counted-append : (xs ys : List Notice) → counted (xs ++ ys) ≡ both (counted xs) (counted ys)
counted-append xs ys =
    rw (length-append xs ys, sum_by-append (λ (n : Notice). length n.added) xs ys, sum_by-append (λ (n : Notice). length n.changed) xs ys, sum_by-append (λ (n : Notice). length n.removed) xs ys) refl

tally-join : (xs ys : List Reply) → tally_of (xs ++ ys) ≡ both (tally_of xs) (tally_of ys)
tally-join xs ys = ap counted (filter_map-append notice_of xs ys) ∙ counted-append (filter_map notice_of xs) (filter_map notice_of ys)

abbrev made : End → List ℕ → List ℕ → FileReport
made end out err = record { end = end; out = out; err = err }

-- a report with findings, and with this text for out
abbrev with_findings : FileReport → List Finding → List ℕ → FileReport
with_findings report findings out = made (worse report.end (end_of findings)) out (report.err ++ flat_map err_line findings)

-- a report with what is printed of what is done after these events
abbrev known_after : List Event → FileReport → List Action → FileReport
known_after events report actions =
    with_findings report (filter_map finding_of actions) (report.out ++ text_from (entries standard events) (run standard events).last actions)

module _ (events more : List Event) where
  abbrev here : State
  here = (run standard events).last

  abbrev text : List ℕ
  text = journal_text (1 + length (entries standard events)) (entries_from here more)

  pub led_on : (report : FileReport) → after_events (led events report) more ≡ led (events ++ more) (with_text report text)
  led_on report =
      let places : 1 + length events + length more ≡ 1 + length (events ++ more) = omega (arith, length-append events more) in
      let joined : tally_of (run standard (events ++ more)).replies ≡ both (tally_of (run standard events).replies) (tally_of (run_from here more).replies) =
      ap tally_of (replies-join (opening standard) events more) ∙ tally-join (run standard events).replies (run_from here more).replies
      in
      rw (joined, last-join (opening standard) events more, places, length-entries (opening standard) events) refl

  -- the text of events and of what is done after them
  text_on : (report : FileReport) (actions : List Action)
      → (known_after (events ++ more) (with_text report text) actions).out
      ≡ report.out ++ (text ++ text_from (entries standard events ++ entries_from here more) (run_from here more).last actions)
  text_on report actions =
      rw (entries-join (opening standard) events more, last-join (opening standard) events more)
      (append_assoc report.out text (text_from (entries standard events ++ entries_from here more) (run_from here more).last actions))

  -- what is reported of events that leave no finding, and of what is done after them
  known_on : (report : FileReport) (actions : List Action)
      → ((r : FileReport) → (after_actions (led (events ++ more) r) actions).report ≡ known_after (events ++ more) r actions)
      → (after_actions (after_events (led events report) more) actions).report
      ≡ with_findings report (filter_map finding_of actions) (report.out ++ (text ++ text_from (entries standard events ++ entries_from here more) (run_from here more).last actions))
  known_on report actions rest =
      ap (λ (t : Telling). (after_actions t actions).report) (led_on report)
      ∙ rest (with_text report text)
      ∙ ap (with_findings report (filter_map finding_of actions)) (text_on report actions)

-- a finding that is noted comes before those of the rest
noted_on : (report : FileReport) (finding : Finding) (findings : List Finding) (out : List ℕ)
    → with_findings (noted report finding) findings out ≡ with_findings report (finding ∷ findings) out
noted_on report finding findings out =
    let ends : worse (noted report finding).end (end_of findings) ≡ worse report.end (end_of (finding ∷ findings)) =
    ap (λ (r : FileReport). r.end) (counted_more report (finding ∷ []) findings) in
    let lines : (noted report finding).err ++ flat_map err_line findings ≡ report.err ++ flat_map err_line (finding ∷ findings) =
    append_assoc report.err (err_line finding) (flat_map err_line findings) in
    ap (λ (end : End). made end out ((noted report finding).err ++ flat_map err_line findings)) ends
    ∙ ap (made (worse report.end (end_of (finding ∷ findings))) out) lines

known_so : (events : List Event) (report : FileReport) (actions : List Action)
    → (after_actions (led events report) actions).report ≡ known_after events report actions
known_so events report [] = counted_none report
known_so events report (job path given ∷ actions) =
    let more = events_of (run standard events).last (job path given) in
    let finding = named path given in
    known_on events more (noted report finding) actions (λ r. known_so (events ++ more) r actions)
    ∙ noted_on report finding (filter_map finding_of actions)
    (report.out ++ text_from (entries standard events) (run standard events).last (job path given ∷ actions))
known_so events report (removal path ∷ actions) =
    let more = events_of (run standard events).last (removal path) in
    known_on events more report actions (λ r. known_so (events ++ more) r actions)
known_so events report (query event ∷ actions) =
    let more = event ∷ [] in
    known_on events more report actions (λ r. known_so (events ++ more) r actions)
known_so events report (show client number ∷ actions) =
    let shown = shown_text (entries standard events) client number (query_at (run standard events).last.queries client number) in
    let rest = λ (all : List Entry). text_from all (run standard events).last actions in
    ap (λ (text : List ℕ). (after_actions (led events (with_text report text)) actions).report) (shown_so events client number)
    ∙ known_so events (with_text report shown) actions
    ∙ ap (with_findings report (filter_map finding_of actions))
    (append_assoc report.out shown (rest (entries standard events)) ∙ ap (λ (all : List Entry). report.out ++ (shown ++ rest all)) (sym (append-nil (entries standard events))))

-- what is reported of a whole run is its report
pub known_all : (actions : List Action) → (after_actions unstarted actions).report ≡ report_of_actions actions
known_all actions = known_so [] no_report actions

-- where no line is left, or nothing that was given, nothing is left to be done
pub none_left : (now offset : ℤ) (lines : List Line) (givens : List (Option ImportResult)) → (length lines ≡ 0) ⊎ (length givens ≡ 0) → actions_of now offset lines givens ≡ []
none_left now offset [] givens ended = refl
none_left now offset (line ∷ lines) [] ended = refl
none_left now offset (line ∷ lines) (given ∷ givens) (inl e) = cc
none_left now offset (line ∷ lines) (given ∷ givens) (inr e) = cc

few_after_commit : (ticket : ℕ) (r : Reply) → length (after_commit ticket r) ≤ 1
few_after_commit ticket reply.StoreFull = omega arith
few_after_commit ticket _ = omega arith

few_at_end : (s : State) (ticket : ℕ) (c : Option Change) → length (ticket_events s ticket c) ≤ 2
few_at_end s ticket (Some c) = omega (arith, few_after_commit ticket (step s (event.Commit ticket c)).reply)
few_at_end s ticket None = omega arith

few_after_draw : (s : State) (c : Option Change) (r : Reply) → length (after_draw s c r) ≤ 2
few_after_draw s c (reply.Ticket ticket) = few_at_end s ticket c
few_after_draw s c _ = omega arith

few_in_job : (s : State) (path : PathBytes) (c : Option Change) → length (job_events s path c) ≤ 3
few_in_job s path c = omega (arith, few_after_draw (step s (event.Draw path)).state c (step s (event.Draw path)).reply)

-- what is done has at most three events
pub few_after : (t : Telling) (action : Action) → (after_action t action).next ≤ t.next + 3
few_after t (job path given) = omega (arith, few_in_job t.state path (change_of given))
few_after t (removal path) = omega (arith, few_in_job t.state path (Some change.Remove))
few_after t (query event) = omega arith
few_after t (show client number) = omega arith
