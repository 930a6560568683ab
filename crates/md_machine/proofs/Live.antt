-- The live queries have distinct keys, stay within the limits, and speak of tables all of whose paths were committed.
use Rattle.std.proofs.Common.{◌≡◌, ℕ, zero, suc, ◌+◌, ◌-◌, ◌≤◌, false, not, cond, List, [], ◌∷◌, drop, length, refl, ap, subst, arith}
use Rattle.std.specs.Prelude.{◌==◌, Option, None, Some, is_some, nat_lt}
use Rattle.std.specs.List.{AllByRecursion, IsDistinct}
use Rattle.std.proofs.lemmas.Bool.{ltb-true, eqb-true}
use Rattle.md_world.specs.declared.Row.{Row}
use Rattle.md_world.specs.declared.Change.{Change}
use Rattle.md_world.specs.declared.Limits.{Limits}
use Rattle.md_world.specs.Differences.{items_of}
use Rattle.md_world.proofs.Lookups.{by_test}
use Rattle.md_world.proofs.Lists.{all_filter, none_is}
use Rattle.md_machine.specs.declared.Spec.{Spec}
use Rattle.md_machine.specs.declared.Event.{Event}
use Rattle.md_machine.specs.declared.Event.TheVariants as event
use Rattle.md_machine.specs.Answers.{shown_answer}
use Rattle.md_machine.specs.States.{Ticket, Stamp, Phase, Gathering, Finished, Query, State, opening, ticket_at, stamp_at, with_stamp, is_query, query_at, queries_of}
use Rattle.md_machine.specs.Steps.{StepResult, Answered, step, draw, commit, commit_over, committed, closed, close, new_query, create, step_result, stop, gather, gather_in, next_part, most_hits, disable, enable, enable_in, poll, poll_in, pending, is_due}
use Rattle.md_machine.specs.Runs.{run_from, run}
use Rattle.md_machine.specs.Laws.{KeysAreDistinct, DisablesAreBounded, ClientsAreBounded, PendingIsWithin}
use Rattle.md_machine.proofs.Lists.{by_cond, all_more, all_map}
use Rattle.md_machine.proofs.Stamped.{IsStamped, still_stamped, after_stamped, pending_stamped}
use Rattle.md_machine.proofs.Keys.{all_set, of_found, keys_more, keys_set, keys_out, count_more, count_set, count_out}
use Rattle.md_machine.proofs.Bounds.{runs_bounded}

-- what holds of a live query
pub record IsSound (limits : Limits) (stamps : List Stamp) (q : Query) : Type 0 where
  pub disables : q.disables ≤ limits.disables
  pub base : IsStamped stamps q.rows

-- what holds of a state that a run reaches
pub record AreSound (limits : Limits) (s : State) : Type 0 where
  pub same : s.limits ≡ limits
  pub newest : IsStamped s.stamps s.table
  pub keys : KeysAreDistinct s
  pub clients : ClientsAreBounded limits s
  pub each : AllByRecursion (IsSound limits s.stamps) s.queries

-- what a sound query answers leaves it sound
module _ (limits : Limits) (s : State) (sound : AreSound limits s) (q : Query) (is : IsSound limits s.stamps q) where
  next_sound : (given : ℕ) (left : List Row) (most : Option ℕ) (now : ℕ) → IsSound limits s.stamps (next_part q given left most now).query
  next_sound given left None now = record { disables = is.disables; base = is.base }
  next_sound given left (Some most) now =
      by_cond (λ (a : Answered). IsSound limits s.stamps a.query) (nat_lt (length left) most) _ _
      (λ _. record { disables = is.disables; base = is.base }) (λ _. record { disables = is.disables; base = is.base })

  gather_in_sound : (now : ℕ) (phase : Phase) → IsSound limits s.stamps (gather_in q now phase).query
  gather_in_sound now Finished = is
  gather_in_sound now (Gathering given) =
      by_cond (λ (a : Answered). IsSound limits s.stamps a.query) (nat_lt 0 q.disables) _ _
      (λ _. is) (λ _. next_sound given (drop given (shown_answer q.spec q.rows)) (most_hits q.spec.batch given) now)

  gather_sound : (now : ℕ) → IsSound limits s.stamps (gather q now).query
  gather_sound now = gather_in_sound now q.phase

  disable_sound : IsSound limits s.stamps (disable s.limits q).query
  disable_sound =
      by_cond (λ (a : Answered). IsSound limits s.stamps a.query) (nat_lt q.disables s.limits.disables) _ _
      (λ e.
      let room = ltb-true q.disables s.limits.disables e in
      let same = ap (λ (l : Limits). l.disables) sound.same in
      record { disables = omega arith; base = is.base })
      (λ _. is)

  enable_in_sound : (now count : ℕ) (phase : Phase) → q.disables ≡ count → IsSound limits s.stamps (enable_in s q now count phase).query
  enable_in_sound now zero phase e = is
  enable_in_sound now (suc (suc n)) phase e = let few = is.disables in record { disables = omega arith; base = is.base }
  enable_in_sound now (suc zero) (Gathering given) e = record { disables = omega arith; base = is.base }
  enable_in_sound now (suc zero) Finished e = record { disables = omega arith; base = sound.newest }

  enable_sound : (now : ℕ) → IsSound limits s.stamps (enable s q now).query
  enable_sound now = enable_in_sound now q.disables q.phase refl

  poll_in_sound : (now : ℕ) (phase : Phase) → IsSound limits s.stamps (poll_in s q now phase).query
  poll_in_sound now (Gathering given) = is
  poll_in_sound now Finished =
      by_cond (λ (a : Answered). IsSound limits s.stamps a.query) (nat_lt 0 q.disables) _ _ (λ _. is)
      (λ _. by_cond (λ (a : Answered). IsSound limits s.stamps a.query) (is_due q.spec.batch (items_of (pending s q)) (now - q.delivered)) _ _
      (λ _. record { disables = is.disables; base = sound.newest }) (λ _. is))

  poll_sound : (now : ℕ) → IsSound limits s.stamps (poll s q now).query
  poll_sound now = poll_in_sound now q.phase

module _ (limits : Limits) (s : State) (sound : AreSound limits s) where
  draw_sound : (path : List ℕ) → AreSound limits (draw s path).state
  draw_sound path =
      by_cond (λ (o : StepResult). AreSound limits o.state) (nat_lt s.drawn s.limits.tickets) _ _
      (λ _. record { same = sound.same; newest = sound.newest; keys = sound.keys; clients = sound.clients; each = sound.each })
      (λ _. sound)

  -- with a ticket closed
  closed_sound : (n : ℕ) → AreSound limits (closed s n)
  closed_sound n = record { same = sound.same; newest = sound.newest; keys = sound.keys; clients = sound.clients; each = sound.each }

  committed_sound : (t : Ticket) (change : Change) → AreSound limits (committed s t change).state
  committed_sound t change =
      let new : Stamp = record { path = t.path; ticket = t.number } in
      record {
        same = sound.same;
        newest = after_stamped s.stamps new s.table change sound.newest;
        keys = sound.keys;
        clients = sound.clients;
        each = all_map (IsSound limits s.stamps) (IsSound limits (with_stamp s.stamps new))
            (λ q is. record { disables = is.disables; base = still_stamped s.stamps new q.rows is.base }) s.queries sound.each;
      }

  commit_over_sound : (t : Ticket) (change : Change) (o : Option Stamp) → AreSound limits (commit_over s t change o).state
  commit_over_sound t change (Some stamp) =
      by_cond (λ (o : StepResult). AreSound limits o.state) (nat_lt t.number stamp.ticket) _ _
      (λ _. closed_sound t.number) (λ _. committed_sound t change)
  commit_over_sound t change None =
      by_cond (λ (o : StepResult). AreSound limits o.state) (nat_lt (length s.stamps) s.limits.paths) _ _
      (λ _. committed_sound t change) (λ _. sound)

  commit_sound : (change : Change) (o : Option Ticket) → AreSound limits (commit s change o).state
  commit_sound change None = sound
  commit_sound change (Some t) = commit_over_sound t change (stamp_at s.stamps t.path)

  close_sound : (o : Option Ticket) → AreSound limits (close s o).state
  close_sound None = sound
  close_sound (Some t) = closed_sound t.number

  -- a client with room has one query more, and each other client as many as before
  room_for : (c d : ℕ) → queries_of s.queries c + 1 ≤ limits.queries → queries_of s.queries d + cond (c == d) 1 0 ≤ limits.queries
  room_for c d room =
      let few = sound.clients d in
      by_test (c == d)
      (λ e. let here = subst (λ d. queries_of s.queries d + 1 ≤ limits.queries) (eqb-true c d e) room in rw e here)
      (λ e. rw e (omega arith))

  create_sound : (c n : ℕ) (spec : Spec) → AreSound limits (create s c n spec).state
  create_sound c n spec =
      by_cond (λ (o : StepResult). AreSound limits o.state) (is_some (query_at s.queries c n)) _ _ (λ _. sound)
      (λ free. by_cond (λ (o : StepResult). AreSound limits o.state) (nat_lt (queries_of s.queries c) s.limits.queries) _ _
      (λ e.
      let new = new_query s c n spec in
      let below = ltb-true (queries_of s.queries c) s.limits.queries e in
      let same = ap (λ (l : Limits). l.queries) sound.same in
      let room : queries_of s.queries c + 1 ≤ limits.queries = omega arith in
      record {
        same = sound.same;
        newest = sound.newest;
        keys = keys_more s.queries new sound.keys (none_is (query_at s.queries c n) free);
        clients = λ d. rw (count_more s.queries new d) (room_for c d room);
        each = all_more (IsSound limits s.stamps) s.queries new sound.each (record { disables = omega arith; base = sound.newest });
      })
      (λ _. sound))

  asked_sound : (ask : Query → Answered) → ((q : Query) → IsSound limits s.stamps q → IsSound limits s.stamps (ask q).query)
      → (c n : ℕ) (o : Option Query) → query_at s.queries c n ≡ o → AreSound limits (step_result s ask o).state
  asked_sound ask good c n None h = sound
  asked_sound ask good c n (Some q) h =
      record {
        same = sound.same;
        newest = sound.newest;
        keys = keys_set s.queries (ask q).query sound.keys;
        clients = λ d. rw (count_set s.queries (ask q).query d) (sound.clients d);
        each = all_set (IsSound limits s.stamps) s.queries (ask q).query sound.each
            (good q (of_found (IsSound limits s.stamps) s.queries c n q sound.each h));
      }

  stop_sound : (c n : ℕ) (o : Option Query) → AreSound limits (stop s c n o).state
  stop_sound c n None = sound
  stop_sound c n (Some q) =
      let others = λ (x : Query). not (is_query c n x) in
      record {
        same = sound.same;
        newest = sound.newest;
        keys = keys_out others s.queries sound.keys;
        clients = λ d. let fewer = count_out others s.queries d in let few = sound.clients d in omega arith;
        each = all_filter (IsSound limits s.stamps) others s.queries sound.each;
      }

  pub step_sound : (e : Event) → AreSound limits (step s e).state
  step_sound (event.Draw path) = draw_sound path
  step_sound (event.Commit n change) = commit_sound change (ticket_at s.tickets n)
  step_sound (event.Close n) = close_sound (ticket_at s.tickets n)
  step_sound (event.Create c n spec) = create_sound c n spec
  step_sound (event.Gather c n now) =
      asked_sound (λ q. gather q now) (λ q is. gather_sound limits s sound q is now) c n (query_at s.queries c n) refl
  step_sound (event.Disable c n) =
      asked_sound (disable s.limits) (λ q is. disable_sound limits s sound q is) c n (query_at s.queries c n) refl
  step_sound (event.Enable c n now) =
      asked_sound (λ q. enable s q now) (λ q is. enable_sound limits s sound q is now) c n (query_at s.queries c n) refl
  step_sound (event.Poll c n now) =
      asked_sound (λ q. poll s q now) (λ q is. poll_sound limits s sound q is now) c n (query_at s.queries c n) refl
  step_sound (event.Stop c n) = stop_sound c n (query_at s.queries c n)
  step_sound (event.Vacuum c) = sound

  pub sound_disables : DisablesAreBounded limits s
  sound_disables = all_map (IsSound limits s.stamps) (λ q. q.disables ≤ limits.disables) (λ q is. is.disables) s.queries sound.each

  pub sound_pending : (most : ℕ) → length s.stamps ≤ most → PendingIsWithin most s
  sound_pending most enough =
      all_map (IsSound limits s.stamps) (λ q. items_of (pending s q) ≤ most)
      (λ q is. let few = pending_stamped s.stamps q.spec q.rows s.table is.base sound.newest in omega arith) s.queries sound.each

-- whole runs keep their states sound
run_from_sound : (limits : Limits) (s : State) → AreSound limits s → (events : List Event) → AreSound limits (run_from s events).last
run_from_sound limits s sound [] = sound
run_from_sound limits s sound (e ∷ events) = run_from_sound limits (step s e).state (step_sound limits s sound e) events

pub opening_sound : (limits : Limits) → AreSound limits (opening limits)
unfolding IsDistinct
opening_sound limits =
    record { same = refl; newest = record { ordered = tt; stamped = λ p _. refl }; keys = tt; clients = λ c. omega arith; each = tt }

pub run_sound : (limits : Limits) (events : List Event) → AreSound limits (run limits events).last
run_sound limits events = run_from_sound limits (opening limits) (opening_sound limits) events

pub keys_distinct : (limits : Limits) (events : List Event) → KeysAreDistinct (run limits events).last
keys_distinct limits events = (run_sound limits events).keys

pub disables_bounded : (limits : Limits) (events : List Event) → DisablesAreBounded limits (run limits events).last
disables_bounded limits events = sound_disables limits (run limits events).last (run_sound limits events)

pub clients_bounded : (limits : Limits) (events : List Event) → ClientsAreBounded limits (run limits events).last
clients_bounded limits events = (run_sound limits events).clients

pub pending_within_stamps : (limits : Limits) (events : List Event) → PendingIsWithin (length (run limits events).last.stamps) (run limits events).last
pending_within_stamps limits events = sound_pending limits (run limits events).last (run_sound limits events) (length (run limits events).last.stamps) (omega arith)

pub pending_within_paths : (limits : Limits) (events : List Event) → PendingIsWithin limits.paths (run limits events).last
pending_within_paths limits events = sound_pending limits (run limits events).last (run_sound limits events) limits.paths (runs_bounded limits events).stamps
