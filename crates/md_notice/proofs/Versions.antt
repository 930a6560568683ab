-- The version that a client speaks of is its query's base, and the next notice goes from there.
use Rattle.std.proofs.Common.{◌≡◌, ℕ, zero, suc, ◌-◌, true, false, List, [], ◌∷◌, ◌++◌, length, drop, fold, refl, sym, ◌∙◌, ap, subst}
use Rattle.std.specs.Prelude.{◌==◌, ◌&&◌, Option, None, Some, is_some, nat_lt}
use Rattle.std.specs.List.{zip}
use Rattle.std.specs.Option.{option_or}
use Rattle.std.proofs.lemmas.Bool.{eqb-true}
use Rattle.std.proofs.lemmas.List.Folds.{find-append}
use Rattle.std.proofs.lemmas.List.Sums.{fold-append}
use Rattle.md_value.proofs.Equals.{both}
use Rattle.md_world.specs.declared.Row.{Row}
use Rattle.md_world.specs.declared.Change.{Change}
use Rattle.md_world.specs.declared.Limits.{Limits}
use Rattle.md_world.specs.declared.order.SortKey.{SortKey}
use Rattle.md_world.specs.Differences.{items_of}
use Rattle.md_world.proofs.Lookups.{by_test, some_inj}
use Rattle.md_world.proofs.Lists.{none_is, or_none}
use Rattle.md_machine.specs.declared.Spec.{Spec}
use Rattle.md_machine.specs.declared.Event.{Event}
use Rattle.md_machine.specs.declared.Event.TheVariants as event
use Rattle.md_machine.specs.declared.Reply.{Reply}
use Rattle.md_machine.specs.declared.Reply.TheVariants as reply
use Rattle.md_machine.specs.Answers.{shown_answer}
use Rattle.md_machine.specs.States.{Ticket, Stamp, Phase, Gathering, Finished, Query, State, opening, ticket_at, stamp_at, is_query, query_at, with_query, queries_of}
use Rattle.md_machine.specs.Steps.{StepResult, Answered, step, draw, commit, commit_over, close, create, new_query, step_result, stop, gather, gather_in, next_part, most_hits, disable, enable, enable_in, poll, poll_in, pending, is_due}
use Rattle.md_machine.specs.Runs.{run_from, run, entries, is_of, received_more, received_by, received}
use Rattle.md_machine.specs.Laws.{IsLive, received_to}
use Rattle.md_machine.proofs.Lists.{by_cond}
use Rattle.md_machine.proofs.Queries.{key_of, found_key, own_place, at_set, at_set_other, at_out_other}
use Rattle.md_machine.proofs.Running.{Received, received_then}
use Rattle.md_notice.specs.Following.{Followed, version_after, created_on, follower_received, GoesFrom}
use Rattle.md_notice.proofs.Received.{received_shown}

-- the version that a client speaks of after these replies
abbrev spoken : List Reply → ℕ
spoken replies = fold version_after (created_on replies) replies

-- any reply but the first one to a query
abbrev IsLater : Reply → Type 0
IsLater (reply.Created version) = ⊥
IsLater _ = Unit {0}

module _ (replies : List Reply) where
  later_more : (r : Reply) → IsLater r → received_more replies r ≡ replies ++ r ∷ []
  later_more (reply.Created version) h = absurd h
  later_more _ h = refl

created_same : (replies : List Reply) (r : Reply) → IsLater r → created_on (replies ++ r ∷ []) ≡ created_on replies
created_same [] (reply.Created version) h = absurd h
created_same [] _ h = refl
created_same (reply.Created version ∷ replies) r h = refl
created_same (_ ∷ replies) r h = refl

spoken_more : (replies : List Reply) (r : Reply) → IsLater r → spoken (received_more replies r) ≡ version_after (spoken replies) r
spoken_more replies r h =
    ap spoken (later_more replies r h)
    ∙ ap (λ version. fold version_after version (replies ++ r ∷ [])) (created_same replies r h)
    ∙ fold-append version_after (created_on replies) replies (r ∷ [])

-- an answer of a query goes from its base to the base that the query has then
record Moves (q : Query) (a : Answered) : Type 0 where
  client : a.query.client ≡ q.client
  number : a.query.number ≡ q.number
  later : IsLater a.reply
  from : GoesFrom q.base a.reply
  to : version_after q.base a.reply ≡ a.query.base

module _ (s : State) (q : Query) where
  next_moves : (given : ℕ) (left : List Row) (most : Option ℕ) (now : ℕ) → Moves q (next_part q given left most now)
  next_moves given left None now = record { client = refl; number = refl; later = tt; from = tt; to = refl }
  next_moves given left (Some most) now =
      by_cond (Moves q) (nat_lt (length left) most) _ _
      (λ _. record { client = refl; number = refl; later = tt; from = tt; to = refl })
      (λ _. record { client = refl; number = refl; later = tt; from = tt; to = refl })

  gather_moves : (now : ℕ) (phase : Phase) → Moves q (gather_in q now phase)
  gather_moves now Finished = record { client = refl; number = refl; later = tt; from = tt; to = refl }
  gather_moves now (Gathering given) =
      by_cond (Moves q) (nat_lt 0 q.disables) _ _
      (λ _. record { client = refl; number = refl; later = tt; from = tt; to = refl })
      (λ _. next_moves given (drop given (shown_answer q.spec q.rows)) (most_hits q.spec.batch given) now)

  disable_moves : Moves q (disable s.limits q)
  disable_moves =
      by_cond (Moves q) (nat_lt q.disables s.limits.disables) _ _
      (λ _. record { client = refl; number = refl; later = tt; from = tt; to = refl })
      (λ _. record { client = refl; number = refl; later = tt; from = tt; to = refl })

  enable_moves : (now count : ℕ) (phase : Phase) → Moves q (enable_in s q now count phase)
  enable_moves now zero phase = record { client = refl; number = refl; later = tt; from = tt; to = refl }
  enable_moves now (suc (suc n)) phase = record { client = refl; number = refl; later = tt; from = tt; to = refl }
  enable_moves now (suc zero) (Gathering given) = record { client = refl; number = refl; later = tt; from = tt; to = refl }
  enable_moves now (suc zero) Finished = record { client = refl; number = refl; later = tt; from = refl; to = refl }

  poll_moves : (now : ℕ) (phase : Phase) → Moves q (poll_in s q now phase)
  poll_moves now (Gathering given) = record { client = refl; number = refl; later = tt; from = tt; to = refl }
  poll_moves now Finished =
      by_cond (Moves q) (nat_lt 0 q.disables) _ _
      (λ _. record { client = refl; number = refl; later = tt; from = tt; to = refl })
      (λ _. by_cond (Moves q) (is_due q.spec.batch (items_of (pending s q)) (now - q.delivered)) _ _
      (λ _. record { client = refl; number = refl; later = tt; from = refl; to = refl })
      (λ _. record { client = refl; number = refl; later = tt; from = tt; to = refl }))

-- each live query's client speaks of its base
abbrev AreOfBase : Received → State → Type 0
AreOfBase received_so s = (q : Query) → query_at s.queries q.client q.number ≡ Some q → spoken (received_so q.client q.number) ≡ q.base

-- a reply that is not the first one, and no notice
abbrev IsStill : Reply → Type 0
IsStill (reply.Created version) = ⊥
IsStill (reply.Notice notice) = ⊥
IsStill _ = Unit {0}

still_received : (replies : List Reply) (r : Reply) → IsStill r → spoken (received_more replies r) ≡ spoken replies
still_received replies r h = spoken_more replies r (later r h) ∙ same (spoken replies) r h
  where
    later : (r : Reply) → IsStill r → IsLater r
    later (reply.Created version) h = absurd h
    later _ h = tt

    same : (version : ℕ) (r : Reply) → IsStill r → version_after version r ≡ version
    same version (reply.Notice notice) h = absurd h
    same version _ h = refl

module _ (received_so : Received) (s : State) (at : AreOfBase received_so s) where
  abbrev After : Event → StepResult → Type 0
  After e o = AreOfBase (received_then received_so (e, o.reply)) o.state

  stays : (e : Event) (r : Reply) → IsStill r → After e (record { reply = r; state = s })
  stays e r still q live =
      by_test (is_of q.client q.number e)
      (λ b. rw b (still_received (received_so q.client q.number) r still ∙ at q live))
      (λ b. rw b (at q live))

  draw_after : (path : List ℕ) → After (event.Draw path) (draw s path)
  draw_after path = by_cond (After (event.Draw path)) (nat_lt s.drawn s.limits.tickets) _ _ (λ _. at) (λ _. at)

  commit_over_after : (t : Ticket) (number : ℕ) (change : Change) (stamp : Option Stamp) → After (event.Commit number change) (commit_over s t change stamp)
  commit_over_after t number change (Some stamp) = by_cond (After (event.Commit number change)) (nat_lt t.number stamp.ticket) _ _ (λ _. at) (λ _. at)
  commit_over_after t number change None = by_cond (After (event.Commit number change)) (nat_lt (length s.stamps) s.limits.paths) _ _ (λ _. at) (λ _. at)

  commit_after : (number : ℕ) (change : Change) (o : Option Ticket) → After (event.Commit number change) (commit s change o)
  commit_after number change None = at
  commit_after number change (Some t) = commit_over_after t number change (stamp_at s.stamps t.path)

  close_after : (number : ℕ) (o : Option Ticket) → After (event.Close number) (close s o)
  close_after number None = at
  close_after number (Some t) = at

  created_after : (c n : ℕ) (spec : Spec) → is_some (query_at s.queries c n) ≡ false → (w : Query) → query_at (s.queries ++ new_query s c n spec ∷ []) w.client w.number ≡ Some w
      → spoken (received_then received_so (event.Create c n spec, reply.Created s.version) w.client w.number) ≡ w.base
  created_after c n spec fresh w live =
      let new = new_query s c n spec in
      let found : option_or (query_at s.queries w.client w.number) (query_at (new ∷ []) w.client w.number) ≡ Some w =
      sym (find-append (is_query w.client w.number) s.queries (new ∷ [])) ∙ live in
      by_test (is_query w.client w.number new)
      (λ e.
      let key = key_of w.client w.number new e in
      let none : query_at s.queries w.client w.number ≡ None =
      subst (λ d. query_at s.queries d w.number ≡ None) key.0 (subst (λ m. query_at s.queries c m ≡ None) key.1 (none_is (query_at s.queries c n) fresh)) in
      let same : new ≡ w = some_inj new w (rw (none, e) at found) in
      rw e (ap (λ (q : Query). q.base) same))
      (λ e.
      let before : query_at s.queries w.client w.number ≡ Some w = sym (or_none (query_at s.queries w.client w.number)) ∙ (rw e at found) in
      rw e (at w before))

  create_after : (c n : ℕ) (spec : Spec) → After (event.Create c n spec) (create s c n spec)
  create_after c n spec =
      by_cond (After (event.Create c n spec)) (is_some (query_at s.queries c n)) _ _
      (λ _. stays (event.Create c n spec) reply.Taken tt)
      (λ fresh. by_cond (After (event.Create c n spec)) (nat_lt (queries_of s.queries c) s.limits.queries) _ _
      (λ _. created_after c n spec fresh)
      (λ _. stays (event.Create c n spec) reply.TooMany tt))

  -- the queries after one of them answered
  answered_after : (e : Event) (c n : ℕ) → ((d m : ℕ) → is_of d m e ≡ (c == d) && (n == m)) → (a : Answered) (q : Query) → query_at s.queries c n ≡ Some q → Moves q a
      → (w : Query) → query_at (with_query s.queries a.query) w.client w.number ≡ Some w → spoken (received_then received_so (e, a.reply) w.client w.number) ≡ w.base
  answered_after e c n of a q h moves w live =
      let key = key_of c n q (found_key s.queries c n q h) in
      let client : a.query.client ≡ c = moves.client ∙ key.0 in
      let number : a.query.number ≡ n = moves.number ∙ key.1 in
      let same_test : is_of w.client w.number e ≡ is_query w.client w.number a.query =
      of w.client w.number ∙ ap (λ (x : ℕ). (x == w.client) && (n == w.number)) (sym client) ∙ ap (λ (y : ℕ). (a.query.client == w.client) && (y == w.number)) (sym number) in
      by_test (is_query w.client w.number a.query)
      (λ b.
      let its = key_of w.client w.number a.query b in
      let there : query_at s.queries a.query.client a.query.number ≡ Some q =
      subst (λ d. query_at s.queries d a.query.number ≡ Some q) (sym client) (subst (λ m. query_at s.queries c m ≡ Some q) (sym number) h) in
      let stands : query_at (with_query s.queries a.query) w.client w.number ≡ Some a.query =
      subst (λ d. query_at (with_query s.queries a.query) d w.number ≡ Some a.query) its.0
      (subst (λ m. query_at (with_query s.queries a.query) a.query.client m ≡ Some a.query) its.1 (at_set s.queries a.query q there)) in
      let same : a.query ≡ w = some_inj a.query w (sym stands ∙ live) in
      let asked : q.client ≡ w.client = sym moves.client ∙ its.0 in
      let numbered : q.number ≡ w.number = sym moves.number ∙ its.1 in
      let before : spoken (received_so w.client w.number) ≡ q.base =
      (λ i. spoken (received_so (sym asked i) (sym numbered i))) ∙ at q (own_place s.queries c n q h) in
      let test : is_of w.client w.number e ≡ true = same_test ∙ b in
      rw test (spoken_more (received_so w.client w.number) a.reply moves.later ∙ ap (λ version. version_after version a.reply) before ∙ moves.to ∙ ap (λ (x : Query). x.base) same))
      (λ b.
      let test : is_of w.client w.number e ≡ false = same_test ∙ b in
      rw test (at w (sym (at_set_other s.queries a.query w.client w.number b) ∙ live)))

  result_after : (e : Event) (c n : ℕ) → ((d m : ℕ) → is_of d m e ≡ (c == d) && (n == m)) → (ask : Query → Answered) → ((q : Query) → Moves q (ask q))
      → (o : Option Query) → query_at s.queries c n ≡ o → After e (step_result s ask o)
  result_after e c n of ask moves None h = stays e reply.NoQuery tt
  result_after e c n of ask moves (Some q) h = answered_after e c n of (ask q) q h (moves q)

  stop_after : (c n : ℕ) (o : Option Query) → After (event.Stop c n) (stop s c n o)
  stop_after c n None = stays (event.Stop c n) reply.NoQuery tt
  stop_after c n (Some q) = λ w live. stays (event.Stop c n) reply.Stopped tt w (at_out_other s.queries c n w.client w.number w live)

  step_after : (e : Event) → After e (step s e)
  step_after (event.Draw path) = draw_after path
  step_after (event.Commit number change) = commit_after number change (ticket_at s.tickets number)
  step_after (event.Close number) = close_after number (ticket_at s.tickets number)
  step_after (event.Create c n spec) = create_after c n spec
  step_after (event.Gather c n now) = result_after (event.Gather c n now) c n (λ _ _. refl) (λ q. gather q now) (λ q. gather_moves s q now q.phase) (query_at s.queries c n) refl
  step_after (event.Disable c n) = result_after (event.Disable c n) c n (λ _ _. refl) (disable s.limits) (λ q. disable_moves s q) (query_at s.queries c n) refl
  step_after (event.Enable c n now) = result_after (event.Enable c n now) c n (λ _ _. refl) (λ q. enable s q now) (λ q. enable_moves s q now q.disables q.phase) (query_at s.queries c n) refl
  step_after (event.Poll c n now) = result_after (event.Poll c n now) c n (λ _ _. refl) (λ q. poll s q now) (λ q. poll_moves s q now q.phase) (query_at s.queries c n) refl
  step_after (event.Stop c n) = stop_after c n (query_at s.queries c n)
  step_after (event.Vacuum c) = at

run_after : (received_so : Received) (s : State) → AreOfBase received_so s → (events : List Event) → AreOfBase (λ c n. fold (received_by c n) (received_so c n) (zip events (run_from s events).replies)) (run_from s events).last
run_after received_so s at [] = at
run_after received_so s at (e ∷ events) = run_after (received_then received_so (e, (step s e).reply)) (step s e).state (step_after received_so s at e) events

module _ (limits : Limits) (events : List Event) where
  spoken_base : AreOfBase (λ c n. received c n (entries limits events)) (run limits events).last
  spoken_base = run_after (λ _ _. []) (opening limits) (λ q h. cc) events

  -- a live query's follower is of its base
  pub of_base : (q : Query) → IsLive limits events q → (follower_received q.spec.order (received_to limits events q)).version ≡ q.base
  of_base q live = ap (λ (f : Followed). f.version) (received_shown q.spec.order (received_to limits events q)) ∙ spoken_base q live

  module _ (client number : ℕ) where
    abbrev now_spoken : ℕ
    now_spoken = spoken (received client number (entries limits events))

    -- what a query answers goes from the version that its client speaks of
    answers_from : (c n : ℕ) → (c == client) && (n == number) ≡ true → (ask : Query → Answered) → ((q : Query) → Moves q (ask q))
        → (o : Option Query) → query_at (run limits events).last.queries c n ≡ o → GoesFrom now_spoken (step_result (run limits events).last ask o).reply
    answers_from c n of ask moves None h = tt
    answers_from c n of ask moves (Some q) h =
        let queries = (run limits events).last.queries in
        let parts = both (c == client) (n == number) of in
        let key = key_of c n q (found_key queries c n q h) in
        let asked : q.client ≡ client = key.0 ∙ eqb-true c client parts.0 in
        let numbered : q.number ≡ number = key.1 ∙ eqb-true n number parts.1 in
        let base : now_spoken ≡ q.base =
        (λ i. spoken (received (sym asked i) (sym numbered i) (entries limits events))) ∙ spoken_base q (own_place queries c n q h) in
        subst (λ version. GoesFrom version (ask q).reply) (sym base) (moves q).from

    goes_from : (e : Event) → is_of client number e ≡ true → GoesFrom now_spoken (step (run limits events).last e).reply
    goes_from (event.Create c n spec) of =
        let s = (run limits events).last in
        by_cond (λ (o : StepResult). GoesFrom now_spoken o.reply) (is_some (query_at s.queries c n)) _ _ (λ _. tt)
        (λ _. by_cond (λ (o : StepResult). GoesFrom now_spoken o.reply) (nat_lt (queries_of s.queries c) s.limits.queries) _ _ (λ _. tt) (λ _. tt))
    goes_from (event.Gather c n now) of = answers_from c n of (λ q. gather q now) (λ q. gather_moves (run limits events).last q now q.phase) _ refl
    goes_from (event.Disable c n) of = answers_from c n of (disable (run limits events).last.limits) (λ q. disable_moves (run limits events).last q) _ refl
    goes_from (event.Enable c n now) of = answers_from c n of (λ q. enable (run limits events).last q now) (λ q. enable_moves (run limits events).last q now q.disables q.phase) _ refl
    goes_from (event.Poll c n now) of = answers_from c n of (λ q. poll (run limits events).last q now) (λ q. poll_moves (run limits events).last q now q.phase) _ refl
    goes_from (event.Stop c n) of =
        let s = (run limits events).last in
        elim (query_at s.queries c n) as (λ o. GoesFrom now_spoken (stop s c n o).reply) [
          | None ↦ tt
          | Some q ↦ tt
        ]
    goes_from _ of = absurd (cc of)

    -- a notice goes from the version that the query's follower is of
    pub notices_from : (order : List SortKey) (e : Event) → is_of client number e ≡ true
        → GoesFrom (follower_received order (received client number (entries limits events))).version (step (run limits events).last e).reply
    notices_from order e of =
        subst (λ version. GoesFrom version (step (run limits events).last e).reply)
        (sym (ap (λ (f : Followed). f.version) (received_shown order (received client number (entries limits events))))) (goes_from e of)
