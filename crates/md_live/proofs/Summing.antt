-- what is reported of all that the lines do is what the run comes to.
use Rattle.std.proofs.Common.{◌≡◌, ℕ, ◌+◌, ◌-◌, List, [], ◌∷◌, ◌++◌, length, map, refl, sym, ◌∙◌, ap, arith, append_assoc, append-nil}
use Rattle.md_world.specs.Limits.{standard}
use Rattle.md_machine.specs.declared.Event.{Event}
use Rattle.md_machine.specs.States.{State, opening}
use Rattle.md_machine.specs.Runs.{run_from, run}
use Rattle.md_machine.proofs.Joining.{last-join}
use Rattle.md_files.specs.Additions.{no_report, noted}
use Rattle.md_files.specs.Findings.Finding.{named}
use Rattle.md_files.specs.Reports.{FileReport}
use Rattle.md_live.specs.Actions.{Action}
use Rattle.md_live.specs.Actions.Action.{job, removal, query, show}
use Rattle.md_live.specs.Events.{events_of, events_from, run_events}
use Rattle.md_live.specs.Tallies.{tally_of}
use Rattle.md_live.specs.Sums.{held_after, sum_of}
use Rattle.md_live.specs.Telling.{Telling, unstarted, after_events, after_action, after_actions, given_to, sum_so_far}
use Rattle.md_live.specs.declared.sums.Sum.{Sum}
use Rattle.md_live.proofs.Holding.{counted_so}
use Rattle.md_live.proofs.Telling.{led, led_on}

module _ (events more : List Event) (report : FileReport) where
  abbrev known : Telling
  known = after_events (led events report) more

  led_to : known ≡ led (events ++ more) known.report
  led_to = led_on events more report ∙ ap (led (events ++ more)) (sym (ap (λ (t : Telling). t.report) (led_on events more report)))

-- what is done leads on by its events
led_by : (events : List Event) (report : FileReport) (action : Action)
    → after_action (led events report) action ≡ led (events ++ events_of (run standard events).last action) (after_action (led events report) action).report
led_by events report (job path given) = led_to events (events_of (run standard events).last (job path given)) (noted report (named path given))
led_by events report (removal path) = led_to events (events_of (run standard events).last (removal path)) report
led_by events report (query event) = led_to events (event ∷ []) report
led_by events report (show client number) =
    ap (λ (all : List Event). led all (after_action (led events report) (show client number)).report) (sym (append-nil events))

led_all : (events : List Event) (report : FileReport) (actions : List Action)
    → after_actions (led events report) actions ≡ led (events ++ events_from (run standard events).last actions) (after_actions (led events report) actions).report
led_all events report [] = ap (λ (all : List Event). led all report) (sym (append-nil events))
led_all events report (action ∷ actions) =
    let here = (run standard events).last in
    let more = events_of here action in
    let next = after_action (led events report) action in
    let first : next ≡ led (events ++ more) next.report = led_by events report action in
    let all : (events ++ more) ++ events_from (run standard (events ++ more)).last actions ≡ events ++ (more ++ events_from (run_from here more).last actions) =
    append_assoc events more (events_from (run standard (events ++ more)).last actions)
    ∙ ap (λ (s : State). events ++ (more ++ events_from s actions)) (last-join (opening standard) events more)
    in
    ap (λ (t : Telling). after_actions t actions) first
    ∙ led_all (events ++ more) next.report actions
    ∙ ap (λ (es : List Event). led es (after_actions (led (events ++ more) next.report) actions).report) all
    ∙ ap (λ (t : Telling). led (events ++ (more ++ events_from (run_from here more).last actions)) (after_actions t actions).report) (sym first)

held_all : (events : List Event) (clients : List ℕ) → map (given_to (run standard events).last) clients ≡ map (held_after events) clients
held_all events [] = refl
held_all events (client ∷ clients) =
    ap (λ (count : ℕ). count ∷ map (given_to (run standard events).last) clients) (counted_so events client 1)
    ∙ ap (λ (counts : List ℕ). held_after events client ∷ counts) (held_all events clients)

abbrev summed : List Event → ℕ → List ℕ → Sum
summed events count held =
    record {
      events = count;
      version = (run standard events).last.version;
      rows = length (run standard events).last.table;
      tally = tally_of (run standard events).replies;
      held = held;
    }

sum_led : (events : List Event) (report : FileReport) (clients : List ℕ) → sum_so_far (led events report) clients ≡ sum_of events clients
sum_led events report clients =
    let places : 1 + length events - 1 ≡ length events = omega arith in
    ap (λ (count : ℕ). summed events count (map (given_to (run standard events).last) clients)) places
    ∙ ap (summed events (length events)) (held_all events clients)

-- what is reported of a whole run sums it up
pub sum_all : (actions : List Action) (clients : List ℕ) → sum_so_far (after_actions unstarted actions) clients ≡ sum_of (run_events actions) clients
sum_all actions clients =
    ap (λ (t : Telling). sum_so_far t clients) (led_all [] no_report actions)
    ∙ sum_led (run_events actions) (after_actions unstarted actions).report clients
