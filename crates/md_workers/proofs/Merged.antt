-- What the passes and the seats of clients and workers come to, once all have ended.
use Rattle.std.proofs.Common.{◌≡◌, ℕ, zero, suc, ◌+◌, ◌<◌, ◌≤◌, Bool, false, true, List, [], ◌∷◌, ◌++◌, length, refl, sym, ◌∙◌, ap, subst, arith}
use Rattle.std.specs.Prelude.{◌==◌, ◌||◌, map, filter, Option, None, Some}
use Rattle.std.specs.List.{AllByRecursion, filter_map, cons_option}
use Rattle.std.proofs.lemmas.Bool.{eq-eqb}
use Rattle.md_world.specs.declared.TheConstants.Limits.{STANDARD}
use Rattle.md_machine.specs.declared.Event.{Event}
use Rattle.md_machine.specs.States.{State, opening}
use Rattle.md_turn.specs.declared.journal.JournalEntry.{JournalEntry}
use Rattle.md_turn.specs.Passes.{Known}
use Rattle.md_turn.specs.Passes as passes
use Rattle.md_pool.specs.Claims.{Drawer, Pool, EachDrawnOnce, times, total_of}
use Rattle.md_merge.specs.Jobs.{Job, draws}
use Rattle.md_merge.specs.Journals.{events_in, is_by}
use Rattle.md_merge.specs.Joining.{AreOwned, ClientPass, WorkerPass, serves, EachOnce, ends_of_numbers, times_drawn, made_beside}
use Rattle.md_merge.specs.Merging.{IsMerged}
use Rattle.md_merge.proofs.Joined.{merged}
use Rattle.md_merge.proofs.Turned.{ended_owned}
use Rattle.md_merge.proofs.Closed.{all_drawn}
use Rattle.md_workers.specs.declared.actor.Actor.{Actor}
use Rattle.md_workers.specs.declared.actor.Client.{Client}
use Rattle.md_workers.specs.declared.actor.Ended.{Ended}
use Rattle.md_workers.specs.declared.actor.Role.{Role}
use Rattle.md_workers.specs.declared.actor.Role.TheVariants as role
use Rattle.md_workers.specs.Actors.{HasMade, HasDone, KeepsSeat, IsAtEnd}
use Rattle.md_workers.specs.Teams.{is_among, AreApart, Ask, fresh_pass, fresh_seat, workers_of, roles_of, AreFresh, InPairs, AreRun}

-- the own entries of an actor's pass
abbrev own_of : Ended → List JournalEntry
own_of e = e.pass.own

-- the numbers that a seat drew, if there is one
abbrev drawn_of : Option Drawer → List ℕ
drawn_of None = []
drawn_of (Some seat) = seat.drawn

-- the passes of the clients, and what ended behind them
abbrev client_passes : List Client → List Ended → List ClientPass
client_passes [] ended = []
client_passes (c ∷ clients) [] = []
client_passes (c ∷ clients) (e ∷ ended) = record { client = c.id; own = e.pass.own } ∷ client_passes clients ended

abbrev behind : List Client → List Ended → List Ended
behind [] ended = ended
behind (c ∷ clients) [] = []
behind (c ∷ clients) (e ∷ ended) = behind clients ended

abbrev worker_pass : Ended → WorkerPass
worker_pass e = record { drawn = drawn_of e.seat; own = e.pass.own }

abbrev worker_passes : List Ended → List WorkerPass
worker_passes ended = map worker_pass ended

module _ (jobs : List Job) (first : Known) where
  -- what an actor with this role did, from a new pass
  pub record Did (role : Role) (e : Ended) : Type 0 where
    pub done : HasDone jobs role (fresh_pass first) e.pass e.seat
    pub seat : KeepsSeat role e.seat

  pub did : (actors : List Actor) (ended : List Ended) → AreFresh first actors → AreRun jobs actors ended → AllByRecursion (λ (e : Ended). e.refused ≡ false) ended
      → InPairs Did (map (λ (a : Actor). a.role) actors) ended
  did [] [] fresh run none = tt
  did [] (e ∷ ended) fresh run none = run
  did (a ∷ actors) [] fresh run none = run
  did (a ∷ actors) (e ∷ ended) fresh run none = (
    record { done = subst (λ (p : Known). HasDone jobs a.role p e.pass e.seat) fresh.0 (run.0.done none.0); seat = run.0.seat },
    did actors ended fresh.1 run.1 none.1,
  )

  -- what stands of a new pass is what it made
  made_own : (p : Known) (events : List Event) → HasMade (fresh_pass first) p events → length jobs ≤ length first.seen
      → (events_in p.own ≡ events) × AllByRecursion (λ (e : JournalEntry). length jobs < e.place) p.own
  made_own p events h few = (
    ap events_in h.own ∙ h.events_are,
    subst (AllByRecursion (λ (e : JournalEntry). length jobs < e.place)) (sym h.own) (further h.gained h.later),
  )
    where
      further : (es : List JournalEntry) → AllByRecursion (λ (e : JournalEntry). length first.seen < e.place) es → AllByRecursion (λ (e : JournalEntry). length jobs < e.place) es
      further [] later = tt
      further (e ∷ es) later = (let above = later.0 in omega arith, further es later.1)

  module _ (few : length jobs ≤ length first.seen) (ws : List Role) where
    abbrev Dids : List Client → List Ended → Type 0
    Dids clients ended = InPairs Did (map (λ (c : Client). role.Client c) clients ++ ws) ended

    made_split : (clients : List Client) (ended : List Ended) → Dids clients ended
        → map own_of ended ≡ map (λ (p : ClientPass). p.own) (client_passes clients ended) ++ map own_of (behind clients ended)
    made_split [] ended h = refl
    made_split (c ∷ clients) [] h = absurd h
    made_split (c ∷ clients) (e ∷ ended) h = ap (λ (owns : List (List JournalEntry)). e.pass.own ∷ owns) (made_split clients ended h.1)

    clients_later : (clients : List Client) (ended : List Ended) → Dids clients ended
        → AllByRecursion (λ own. AllByRecursion (λ (e : JournalEntry). length jobs < e.place) own) (map (λ (p : ClientPass). p.own) (client_passes clients ended))
    clients_later [] ended h = tt
    clients_later (c ∷ clients) [] h = absurd h
    clients_later (c ∷ clients) (e ∷ ended) h = ((made_own e.pass c.events h.0.done few).1, clients_later clients ended h.1)

    clients_asks : (asked : List Event) (clients : List Client) (ended : List Ended) → Dids clients ended
        → AllByRecursion (λ (c : Client). c.events ≡ filter (is_by c.id) asked) clients
        → AllByRecursion (λ (p : ClientPass). events_in p.own ≡ filter (is_by p.client) asked) (client_passes clients ended)
    clients_asks asked [] ended h each = tt
    clients_asks asked (c ∷ clients) [] h each = absurd h
    clients_asks asked (c ∷ clients) (e ∷ ended) h each = ((made_own e.pass c.events h.0.done few).0 ∙ each.0, clients_asks asked clients ended h.1 each.1)

    serves_is : (clients : List Client) (ended : List Ended) → Dids clients ended → (id : ℕ) → serves (client_passes clients ended) id ≡ is_among clients id
    serves_is [] ended h id = refl
    serves_is (c ∷ clients) [] h id = absurd h
    serves_is (c ∷ clients) (e ∷ ended) h id = ap (λ (b : Bool). (c.id == id) || b) (serves_is clients ended h.1 id)

    clients_once : (clients : List Client) (ended : List Ended) → Dids clients ended → AreApart clients → EachOnce (client_passes clients ended)
    clients_once [] ended h apart = tt
    clients_once (c ∷ clients) [] h apart = absurd h
    clients_once (c ∷ clients) (e ∷ ended) h apart = (serves_is clients ended h.1 c.id ∙ apart.0, clients_once clients ended h.1 apart.1)

    workers_did : (clients : List Client) (ended : List Ended) → Dids clients ended → InPairs Did ws (behind clients ended)
    workers_did [] ended h = h
    workers_did (c ∷ clients) [] h = absurd h
    workers_did (c ∷ clients) (e ∷ ended) h = workers_did clients ended h.1

    seats_are : (clients : List Client) (ended : List Ended) → Dids clients ended
        → filter_map (λ (e : Ended). e.seat) ended ≡ filter_map (λ (e : Ended). e.seat) (behind clients ended)
    seats_are [] ended h = refl
    seats_are (c ∷ clients) [] h = absurd h
    seats_are (c ∷ clients) (e ∷ ended) h =
        ap (λ (o : Option Drawer). cons_option o (filter_map (λ (x : Ended). x.seat) ended)) h.0.seat ∙ seats_are clients ended h.1

  module _ (few : length jobs ≤ length first.seen) (seat : Drawer) where
    -- a worker's pass made the ends of what its seat drew
    worker_made : (e : Ended) → Did (role.Worker seat) e
        → (events_in e.pass.own ≡ ends_of_numbers jobs (drawn_of e.seat)) × AllByRecursion (λ (j : JournalEntry). length jobs < j.place) e.pass.own × IsAtEnd (length jobs) (drawn_of e.seat)
    worker_made e h =
        let d = h.done in
        let same = d.0 in
        let own = made_own e.pass (ends_of_numbers jobs same.drawn) d.2.made few in
        let drawn : same.drawn ≡ drawn_of e.seat = sym (ap drawn_of d.1) in
        (own.0 ∙ ap (ends_of_numbers jobs) drawn, own.1, subst (IsAtEnd (length jobs)) drawn d.2.at_end)

    workers_ends : (w : ℕ) (ended : List Ended) → InPairs Did (workers_of seat w) ended
        → AllByRecursion (λ (p : WorkerPass). events_in p.own ≡ ends_of_numbers jobs p.drawn) (worker_passes ended)
    workers_ends zero [] h = tt
    workers_ends zero (e ∷ ended) h = absurd h
    workers_ends (suc w) [] h = tt
    workers_ends (suc w) (e ∷ ended) h = ((worker_made e h.0).0, workers_ends w ended h.1)

    workers_later : (w : ℕ) (ended : List Ended) → InPairs Did (workers_of seat w) ended
        → AllByRecursion (λ own. AllByRecursion (λ (e : JournalEntry). length jobs < e.place) own) (map (λ (p : WorkerPass). p.own) (worker_passes ended))
    workers_later zero [] h = tt
    workers_later zero (e ∷ ended) h = absurd h
    workers_later (suc w) [] h = tt
    workers_later (suc w) (e ∷ ended) h = ((worker_made e h.0).1, workers_later w ended h.1)

  -- each pass of a worker has its own entries
  owns_same : (ended : List Ended) → map own_of ended ≡ map (λ (p : WorkerPass). p.own) (worker_passes ended)
  owns_same [] = refl
  owns_same (e ∷ ended) = ap (λ (owns : List (List JournalEntry)). e.pass.own ∷ owns) (owns_same ended)

-- a number is drawn by the seats as often as by the workers
drawn_same : (k : ℕ) (ended : List Ended) → total_of (λ (s : Drawer). times k s.drawn) (filter_map (λ (e : Ended). e.seat) ended) ≡ times_drawn k (worker_passes ended)
drawn_same k [] = refl
drawn_same k (e ∷ ended) = by_seat e.seat (drawn_same k ended)
  where
    by_seat : (o : Option Drawer) → total_of (λ (s : Drawer). times k s.drawn) (filter_map (λ (x : Ended). x.seat) ended) ≡ times_drawn k (worker_passes ended)
        → total_of (λ (s : Drawer). times k s.drawn) (cons_option o (filter_map (λ (x : Ended). x.seat) ended)) ≡ times k (drawn_of o) + times_drawn k (worker_passes ended)
    by_seat None same = omega arith
    by_seat (Some s) same = ap (λ n. times k s.drawn + n) same

-- the last of a list is in it
times_last : (x : ℕ) (xs : List ℕ) → 0 < times x (xs ++ x ∷ [])
times_last x [] = let here : x == x ≡ true = eq-eqb x x refl in rw here (omega arith)
times_last x (y ∷ xs) = let rest = times_last x xs in omega arith

module _ (jobs : List Job) (first : Known) (few : length jobs ≤ length first.seen) (seat : Drawer) where
  -- where there is a worker, a number past the jobs was drawn
  past_drawn : (w : ℕ) (ended : List Ended) → 0 < w → InPairs (Did jobs first) (workers_of seat w) ended
      → (past : ℕ) × (length jobs ≤ past) × (0 < times_drawn past (worker_passes ended))
  past_drawn zero ended some h = absurd (omega arith)
  past_drawn (suc w) [] some h = absurd h
  past_drawn (suc w) (e ∷ ended) some h =
      let at = (worker_made jobs first few seat e h.0).2 in
      let there : 0 < times at.last (drawn_of e.seat) = subst (λ (xs : List ℕ). 0 < times at.last xs) (sym at.drawn_is) (times_last at.last at.earlier) in
      (at.last, at.past, omega arith)

length_draws : (jobs : List Job) → length (draws jobs) ≡ length jobs
length_draws [] = refl
length_draws (j ∷ jobs) = ap suc (length_draws jobs)

length_events : (es : List JournalEntry) → length (events_in es) ≡ length es
length_events [] = refl
length_events (e ∷ es) = ap suc (length_events es)

both : (P : List JournalEntry → Type 0) (xs ys : List (List JournalEntry)) → AllByRecursion P xs → AllByRecursion P ys → AllByRecursion P (xs ++ ys)
both P [] ys h k = k
both P (x ∷ xs) ys h k = (h.0, both P xs ys h.1 k)

owns_of_ended : (ended : List Ended) → map (λ (p : Known). p.own) (map (λ (e : Ended). e.pass) ended) ≡ map own_of ended
owns_of_ended [] = refl
owns_of_ended (e ∷ ended) = ap (λ (owns : List (List JournalEntry)). e.pass.own ∷ owns) (owns_of_ended ended)

-- The journal of clients and workers that all ended is merged.
pub team_merged : (jobs : List Job) (asked : List Event) (clients : List Client) (w : ℕ) (pool : Pool) (opened drawn first : Known) (seat : Drawer) (actors : List Actor) (ended : List Ended) (state : State) (journal : List JournalEntry)
    → 0 < w → opened.own ≡ [] → HasMade opened drawn (draws jobs) → first.own ≡ drawn.own → seat.drawn ≡ []
    → AreFresh drawn actors → map (λ (a : Actor). a.role) actors ≡ roles_of pool clients w
    → AreRun jobs actors ended → AllByRecursion (λ (e : Ended). e.refused ≡ false) ended
    → passes.Ended (opening STANDARD) (first ∷ map (λ (e : Ended). e.pass) ended) state journal
    → EachDrawnOnce (seat ∷ filter_map (λ (e : Ended). e.seat) ended)
    → Ask asked clients → IsMerged jobs asked journal
team_merged jobs asked clients w pool opened drawn first seat actors ended state journal some none made own unused fresh roles run unrefused closed once ask =
    let own_is : first.own ≡ made.gained = own ∙ made.own ∙ ap (λ (es : List JournalEntry). es ++ made.gained) none in
    let drew : events_in first.own ≡ draws jobs = ap events_in own_is ∙ made.events_are in
    let count : length made.gained ≡ length jobs = sym (length_events made.gained) ∙ ap length made.events_are ∙ length_draws jobs in
    let few : length jobs ≤ length drawn.seen = (let seen = made.seen in omega arith) in
    let ws : List Role = workers_of (fresh_seat pool) w in
    let all : InPairs (Did jobs drawn) (roles_of pool clients w) ended = subst (λ (rs : List Role). InPairs (Did jobs drawn) rs ended) roles (did jobs drawn actors ended fresh run unrefused) in
    let rest = behind clients ended in
    let works : InPairs (Did jobs drawn) ws rest = workers_did jobs drawn few ws clients ended all in
    let owns : map (λ (p : Known). p.own) (map (λ (e : Ended). e.pass) ended) ≡ made_beside (client_passes clients ended) (worker_passes rest) =
    owns_of_ended ended ∙ made_split jobs drawn few ws clients ended all
    ∙ ap (λ (os : List (List JournalEntry)). map (λ (p : ClientPass). p.own) (client_passes clients ended) ++ os) (owns_same jobs drawn rest) in
    let past = past_drawn jobs drawn few (fresh_seat pool) w rest some works in
    let seats = seats_are jobs drawn few ws clients ended all in
    let drawn_total : (k : ℕ) → total_of (λ (s : Drawer). times k s.drawn) (seat ∷ filter_map (λ (e : Ended). e.seat) ended) ≡ times_drawn k (worker_passes rest) =
    λ k. (let zero_own : times k seat.drawn ≡ 0 = ap (times k) unused in
    let same = ap (total_of (λ (s : Drawer). times k s.drawn)) seats ∙ drawn_same k rest in omega arith) in
    merged jobs asked first.own (client_passes clients ended) (worker_passes rest) journal
    (record {
      legal = closed.legal;
      owned = subst (λ (os : List (List JournalEntry)). AreOwned (first.own ∷ os) journal) owns (ended_owned (first ∷ map (λ (e : Ended). e.pass) ended) state journal closed);
      draws = drew;
      later = both (λ own. AllByRecursion (λ (e : JournalEntry). length jobs < e.place) own) _ _ (clients_later jobs drawn few ws clients ended all) (workers_later jobs drawn few (fresh_seat pool) w rest works);
      asks = clients_asks jobs drawn few ws asked clients ended all ask.each;
      once = clients_once jobs drawn few ws clients ended all ask.apart;
      served = λ id none. ask.all id (sym (serves_is jobs drawn few ws clients ended all id) ∙ none);
      ends = workers_ends jobs drawn few (fresh_seat pool) w rest works;
      drawn = λ k below. sym (drawn_total k) ∙ all_drawn (length jobs) past.0 (seat ∷ filter_map (λ (e : Ended). e.seat) ended) once past.1 (subst (λ n. 0 < n) (sym (drawn_total past.0)) past.2) k below;
    })
