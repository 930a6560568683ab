-- The store's calls are the machine's steps.
use Rattle.std.proofs.Common.{◌≡◌, ℕ, ◌+◌, ◌<◌, ◌≤◌, Bool, true, false, List, [], ◌∷◌, ◌++◌, length, refl, sym, ap, ◌∙◌, subst, arith}
use Rattle.std.specs.Prelude.{Option, None, Some, Result, Err, IsSome, is_some, ◌==◌, nat_lt}
use Rattle.std.specs.Option.{option_map}
use Rattle.std.specs.List.{AllByRecursion}
use Rattle.std.proofs.lemmas.Bool.Decides.{nat_tests}
use Rattle.std.proofs.lemmas.List.{length-map}
use Rattle.md_value.specs.Values.{PathBytes}
use Rattle.md_world.specs.Tables.{after}
use Rattle.md_world.specs.Tickets.{Ticket, Stamp, ticket_at, stamp_at}
use Rattle.md_world.specs.declared.Change.{Change}
use Rattle.md_world.specs.declared.Row.{Row}
use Rattle.md_world.proofs.Lookups.{by_test, some_inj}
use Rattle.md_store.specs.Places.{Place, table_at, stamps_of, with_commit, places_seen}
use Rattle.md_store.specs.Readied.{Readied}
use Rattle.md_store.specs.Stores.{Stored, with_draw, closed, applied, refusal, refusal_of, refusal_by, IsReady, is_shown, vacuumed}
use Rattle.md_store.specs.declared.ready.ReadyEnd.{ReadyEnd}
use Rattle.md_store.specs.declared.ready.ReadyEnd.TheVariants as end
use Rattle.md_store.proofs.Tabling.{stamps_commit, table_earlier, table_vacuum}
use Rattle.md_machine.specs.declared.Spec.{Spec}
use Rattle.md_machine.specs.States.{Query, State, Gathering, query_at, without_query, queries_of}
use Rattle.md_machine.specs.Steps.{StepResult, step, commit, commit_over, committed, close, stop}
use Rattle.md_machine.specs.declared.Event.TheVariants as event
use Rattle.md_machine.specs.declared.Reply.{Reply}
use Rattle.md_machine.specs.declared.Reply.TheVariants as reply
use Rattle.md_hub.specs.Pinned.{AreMade}
use Rattle.md_hub.specs.States.{with_table, with_tables, state_of}
use Rattle.md_hub.proofs.Living.{at_tables, count_tables, more_tables, out_tables, out_none}

-- a reply, and the state of a store
abbrev pub left_by : Reply → Stored → List Query → StepResult
left_by r s queries = record { reply = r; state = state_of s queries }

-- what the machine answers where a commit is refused
abbrev pub left_by_end : Stored → List Query → ℕ → ReadyEnd → StepResult
left_by_end s queries ticket end.NoTicket = left_by reply.NoTicket s queries
left_by_end s queries ticket (end.Superseded newer) = left_by (reply.Superseded newer) (closed s ticket) queries
left_by_end s queries ticket end.StoreFull = left_by reply.StoreFull s queries
left_by_end s queries ticket end.Memory = left_by reply.Memory s queries

-- a ticket that is found has the number
found_number : (tickets : List Ticket) (n : ℕ) (t : Ticket) → ticket_at tickets n ≡ Some t → t.number ≡ n
found_number [] n t h = cc
found_number (u ∷ tickets) n t h =
    by_test (u.number == n)
    (λ b. let same : u ≡ t = some_inj u t (rw b at h) in let own : u.number ≡ n = grind (arith, nat_tests) in ap (λ (w : Ticket). w.number) (sym same) ∙ own)
    (λ b. found_number tickets n t (rw b at h))

numbered : (n : ℕ) (t : Ticket) → t.number ≡ n → t ≡ record { number = n; path = t.path }
numbered n t h = ap (λ (k : ℕ). record { number = k; path = t.path }) h

pub found_ticket : (tickets : List Ticket) (n : ℕ) (t : Ticket) → ticket_at tickets n ≡ Some t → ticket_at tickets n ≡ Some (record { number = n; path = t.path })
found_ticket tickets n t h = h ∙ ap Some (numbered n t (found_number tickets n t h))

module _ (s : Stored) (queries : List Query) where
  pub draw_is : (path : PathBytes) → s.drawn < s.limits.tickets → step (state_of s queries) (event.Draw path) ≡ left_by (reply.Ticket (s.drawn + 1)) (with_draw s path) queries
  draw_is path lt = let e : nat_lt s.drawn s.limits.tickets ≡ true = grind (arith, nat_tests) in rw e refl

  pub spent_is : (path : PathBytes) → s.limits.tickets ≤ s.drawn → step (state_of s queries) (event.Draw path) ≡ left_by reply.TicketsSpent s queries
  spent_is path le = let e : nat_lt s.drawn s.limits.tickets ≡ false = grind (arith, nat_tests) in rw e refl

  pub close_is : (n : ℕ) (t : Ticket) → ticket_at s.tickets n ≡ Some t → step (state_of s queries) (event.Close n) ≡ left_by reply.Closed (closed s n) queries
  close_is n t h = ap (close (state_of s queries)) (found_ticket s.tickets n t h)

  pub closed_is : (n : ℕ) → IsSome (ticket_at s.tickets n) → (step (state_of s queries) (event.Close n)).state ≡ state_of (closed s n) queries
  closed_is n there = cases (ticket_at s.tickets n) refl there
    where
      cases : (o : Option Ticket) → ticket_at s.tickets n ≡ o → IsSome o → (step (state_of s queries) (event.Close n)).state ≡ state_of (closed s n) queries
      cases None e some = cc
      cases (Some t) e some = ap (λ (o : StepResult). o.state) (close_is n t e)

  pub not_open_is : (n : ℕ) → ticket_at s.tickets n ≡ None → step (state_of s queries) (event.Close n) ≡ left_by reply.NoTicket s queries
  not_open_is n h = ap (close (state_of s queries)) h

  over_refused : (n : ℕ) (p : PathBytes) (change : Change) (o : Option Stamp) (e : ReadyEnd) → refusal_by s n o ≡ Some e
      → commit_over (state_of s queries) (record { number = n; path = p }) change o ≡ left_by_end s queries n e
  over_refused n p change (Some stamp) e h =
      by_test (nat_lt n stamp.ticket)
      (λ b. let is : end.Superseded stamp.ticket ≡ e = some_inj (end.Superseded stamp.ticket) e (rw b at h) in rw b (ap (left_by_end s queries n) is))
      (λ b. absurd (none_some e (rw b at h)))
    where
      none_some : (e : ReadyEnd) → None ≡ Some e → ⊥
      none_some e h = cc
  over_refused n p change None e h =
      let size = length-map s.places (λ (place : Place). record { path = place.path; ticket = place.stamp }) in
      by_test (nat_lt (length s.places) s.limits.paths)
      (λ b. absurd (none_some e (rw b at h)))
      (λ b.
      let is : end.StoreFull ≡ e = some_inj end.StoreFull e (rw b at h) in
      let full : nat_lt (length (stamps_of s.places)) s.limits.paths ≡ false = ap (λ (k : ℕ). nat_lt k s.limits.paths) size ∙ b in
      rw full (ap (left_by_end s queries n) is))
    where
      none_some : (e : ReadyEnd) → None ≡ Some e → ⊥
      none_some e h = cc

  refused_by : (n : ℕ) (change : Change) (e : ReadyEnd) (o : Option Ticket) → ticket_at s.tickets n ≡ o → refusal_of s n o ≡ Some e → commit (state_of s queries) change o ≡ left_by_end s queries n e
  refused_by n change e None at h = ap (left_by_end s queries n) (some_inj end.NoTicket e h)
  refused_by n change e (Some t) at h =
      ap (λ o. commit (state_of s queries) change o) (sym at ∙ found_ticket s.tickets n t at) ∙ over_refused n t.path change (stamp_at (stamps_of s.places) t.path) e h

  pub refusal_is : (n : ℕ) (change : Change) (e : ReadyEnd) → refusal s n ≡ Some e → step (state_of s queries) (event.Commit n change) ≡ left_by_end s queries n e
  refusal_is n change e h = refused_by n change e (ticket_at s.tickets n) refl h

  over_allowed : (n : ℕ) (p : PathBytes) (change : Change) (o : Option Stamp) → refusal_by s n o ≡ None
      → commit_over (state_of s queries) (record { number = n; path = p }) change o ≡ committed (state_of s queries) (record { number = n; path = p }) change
  over_allowed n p change (Some stamp) h =
      by_test (nat_lt n stamp.ticket)
      (λ b. absurd (some_none (end.Superseded stamp.ticket) (rw b at h)))
      (λ b. rw b refl)
    where
      some_none : (e : ReadyEnd) → Some e ≡ None → ⊥
      some_none e h = cc
  over_allowed n p change None h =
      let size = length-map s.places (λ (place : Place). record { path = place.path; ticket = place.stamp }) in
      by_test (nat_lt (length s.places) s.limits.paths)
      (λ b. let room : nat_lt (length (stamps_of s.places)) s.limits.paths ≡ true = ap (λ (k : ℕ). nat_lt k s.limits.paths) size ∙ b in rw room refl)
      (λ b. absurd (some_none end.StoreFull (rw b at h)))
    where
      some_none : (e : ReadyEnd) → Some e ≡ None → ⊥
      some_none e h = cc

  -- a commit that is not refused is made
  allowed_by : (n : ℕ) (change : Change) (o : Option Ticket) → ticket_at s.tickets n ≡ o → refusal_of s n o ≡ None → (t : Ticket) × (ticket_at s.tickets n ≡ Some (record { number = n; path = t.path })) × (commit (state_of s queries) change o ≡ committed (state_of s queries) (record { number = n; path = t.path }) change)
  allowed_by n change None at h = absurd (some_none end.NoTicket h)
    where
      some_none : (e : ReadyEnd) → Some e ≡ None → ⊥
      some_none e h = cc
  allowed_by n change (Some t) at h =
      let own = found_ticket s.tickets n t at in
      (t, own, ap (λ o. commit (state_of s queries) change o) (sym at ∙ own) ∙ over_allowed n t.path change (stamp_at (stamps_of s.places) t.path) h)

  pub allowed_is : (n : ℕ) (change : Change) → refusal s n ≡ None → (t : Ticket) × (ticket_at s.tickets n ≡ Some (record { number = n; path = t.path })) × (step (state_of s queries) (event.Commit n change) ≡ committed (state_of s queries) (record { number = n; path = t.path }) change)
  allowed_is n change h = allowed_by n change (ticket_at s.tickets n) refl h

-- what a commit that was not made ready was refused by, where memory did not run out
pub refusal_from : (s : Stored) (n : ℕ) (f : ReadyEnd) → ((e : ReadyEnd) → refusal s n ≡ Some e → f ≡ e) → (refusal s n ≡ None → f ≡ end.Memory) → (f ≡ end.Memory → ⊥) → refusal s n ≡ Some f
refusal_from s n f refused memory other = cases (refusal s n) refl
  where
    cases : (o : Option ReadyEnd) → refusal s n ≡ o → o ≡ Some f
    cases None e = absurd (other (memory e))
    cases (Some x) e = ap Some (sym (refused x e))

-- want of memory is no refusal
no_memory_by : (s : Stored) (n : ℕ) (o : Option Stamp) → refusal_by s n o ≡ Some end.Memory → ⊥
no_memory_by s n (Some stamp) h = by_test (nat_lt n stamp.ticket) (λ b. superseded (rw b at h)) (λ b. none_some (rw b at h))
  where
    superseded : Some (end.Superseded stamp.ticket) ≡ Some end.Memory → ⊥
    superseded h = cc

    none_some : None ≡ Some end.Memory → ⊥
    none_some h = cc
no_memory_by s n None h = by_test (nat_lt (length s.places) s.limits.paths) (λ b. none_some (rw b at h)) (λ b. full (rw b at h))
  where
    full : Some end.StoreFull ≡ Some end.Memory → ⊥
    full h = cc

    none_some : None ≡ Some end.Memory → ⊥
    none_some h = cc

no_memory : (s : Stored) (n : ℕ) (o : Option Ticket) → refusal_of s n o ≡ Some end.Memory → ⊥
no_memory s n None h = cc
no_memory s n (Some t) h = no_memory_by s n (stamp_at (stamps_of s.places) t.path) h

-- where memory ran out the commit is not refused
pub allowed_from : (s : Stored) (n : ℕ) → ((e : ReadyEnd) → refusal s n ≡ Some e → end.Memory ≡ e) → refusal s n ≡ None
allowed_from s n refused = cases (refusal s n) refl
  where
    cases : (o : Option ReadyEnd) → refusal s n ≡ o → o ≡ None
    cases None e = refl
    cases (Some x) e = absurd (no_memory s n (ticket_at s.tickets n) (e ∙ ap Some (sym (refused x e))))

-- a ticket that is superseded is open
pub superseded_open : (s : Stored) (n newer : ℕ) → refusal s n ≡ Some (end.Superseded newer) → IsSome (ticket_at s.tickets n)
superseded_open s n newer h = cases (ticket_at s.tickets n) h
  where
    cases : (o : Option Ticket) → refusal_of s n o ≡ Some (end.Superseded newer) → IsSome o
    cases None e = absurd (other e)
      where
        other : Some end.NoTicket ≡ Some (end.Superseded newer) → ⊥
        other e = cc
    cases (Some t) e = refl

pub err_inj : {A E : Type 0} (r : Result A E) (x y : E) → r ≡ Err x → r ≡ Err y → x ≡ y
err_inj r x y a b = cc

-- queries of versions that are made have their tables still
pub tables_stay : (s : Stored) (r : Readied) (queries : List Query) → AreMade s.version queries → with_tables (applied s r).places queries ≡ with_tables s.places queries
tables_stay s r [] made = refl
tables_stay s r (q ∷ queries) made =
    let le = made.0 in
    let table : table_at (applied s r).places q.base ≡ table_at s.places q.base = table_earlier (s.version + 1) q.base r.path r.ticket r.row s.places (omega arith) in
    ap (λ rows. record q { rows = rows } ∷ with_tables (applied s r).places queries) table ∙ ap (λ rest. with_table s.places q ∷ rest) (tables_stay s r queries made.1)

-- a commit that is ready is the machine's
pub commit_is : (s : Stored) (queries : List Query) (r : Readied) (change : Change) → IsReady s r → AreMade s.version queries
    → table_at (applied s r).places (applied s r).version ≡ after (table_at s.places s.version) r.path change
    → step (state_of s queries) (event.Commit r.ticket change) ≡ left_by (reply.Committed (s.version + 1)) (applied s r) queries
commit_is s queries r change ready made table =
    let allowed = allowed_is s queries r.ticket change ready.allowed in
    let t = ready.ticket.0 in
    let own : allowed.0.path ≡ r.path = ap (λ (x : Ticket). x.path) (some_inj _ t (sym allowed.1 ∙ ready.ticket.1)) ∙ ready.ticket.2 in
    allowed.2
    ∙ ap (λ (p : PathBytes). committed (state_of s queries) (record { number = r.ticket; path = p }) change) own
    ∙ ap (λ (rows : List Row). record (left_by (reply.Committed (s.version + 1)) (applied s r) queries) { state = record (state_of (applied s r) queries) { table = rows; queries = with_tables s.places queries; stamps = (committed (state_of s queries) (record { number = r.ticket; path = r.path }) change).state.stamps } }) (sym table)
    ∙ ap (λ (stamps : List Stamp). record (left_by (reply.Committed (s.version + 1)) (applied s r) queries) { state = record (state_of (applied s r) queries) { stamps = stamps; queries = with_tables s.places queries } }) (sym (stamps_commit (s.version + 1) r.path r.ticket r.row s.places))
    ∙ ap (λ (qs : List Query). record (left_by (reply.Committed (s.version + 1)) (applied s r) queries) { state = record (state_of (applied s r) queries) { queries = qs } }) (sym (tables_stay s r queries made))

stamps_vacuum : (newest : ℕ) (pins : List ℕ) (places : List Place) → stamps_of (places_seen newest pins places) ≡ stamps_of places
stamps_vacuum newest pins [] = refl
stamps_vacuum newest pins (place ∷ places) = ap (λ rest. record { path = place.path; ticket = place.stamp } ∷ rest) (stamps_vacuum newest pins places)

newest_shown : (s : Stored) → is_shown s s.version ≡ true
newest_shown s = let same : (s.version == s.version) ≡ true = grind (arith, nat_tests) in rw same refl

tables_kept : (s : Stored) (queries : List Query) → AllByRecursion (λ (q : Query). is_shown s q.base ≡ true) queries → with_tables (vacuumed s).places queries ≡ with_tables s.places queries
tables_kept s [] shown = refl
tables_kept s (q ∷ queries) shown =
    ap (λ rows. record q { rows = rows } ∷ with_tables (vacuumed s).places queries) (table_vacuum s.version q.base s.pins s.places shown.0)
    ∙ ap (λ rest. with_table s.places q ∷ rest) (tables_kept s queries shown.1)

-- a vacuum changes nothing that the machine keeps
pub vacuum_is : (s : Stored) (queries : List Query) → AllByRecursion (λ (q : Query). is_shown s q.base ≡ true) queries → state_of (vacuumed s) queries ≡ state_of s queries
vacuum_is s queries shown =
    ap (λ (rows : List Row). record (state_of (vacuumed s) queries) { table = rows }) (table_vacuum s.version s.version s.pins s.places (newest_shown s))
    ∙ ap (λ (stamps : List Stamp). record (state_of (vacuumed s) queries) { table = table_at s.places s.version; stamps = stamps }) (stamps_vacuum s.version s.pins s.places)
    ∙ ap (λ (qs : List Query). record (state_of s queries) { queries = qs }) (tables_kept s queries shown)

-- no query of the client and number is there, and the client has room for it
module _ (s : Stored) (queries : List Query) (client number : ℕ) where
  abbrev is_live : Bool
  is_live = is_some (query_at queries client number)

  live_is : is_some (query_at (with_tables s.places queries) client number) ≡ is_live
  live_is = ap is_some (at_tables s.places queries client number) ∙ mapped (query_at queries client number)
    where
      mapped : (o : Option Query) → is_some (option_map (with_table s.places) o) ≡ is_some o
      mapped None = refl
      mapped (Some q) = refl

  pub taken_is : (spec : Spec) → is_live ≡ true → step (state_of s queries) (event.Create client number spec) ≡ left_by reply.Taken s queries
  taken_is spec live = rw (live_is ∙ live) refl

  pub full_is : (spec : Spec) → is_live ≡ false → s.limits.queries ≤ queries_of queries client → step (state_of s queries) (event.Create client number spec) ≡ left_by reply.TooMany s queries
  full_is spec free full =
      let count = count_tables s.places queries client in
      let most : nat_lt (queries_of queries client) s.limits.queries ≡ false = grind (arith, nat_tests) in
      rw (live_is ∙ free, ap (λ (k : ℕ). nat_lt k s.limits.queries) count ∙ most) refl

  -- a new query, without its base's table
  abbrev pub bare_query : Spec → Query
  bare_query spec = record { client = client; number = number; spec = spec; phase = Gathering 0; base = s.version; rows = []; disables = 0; delivered = 0 }

  pub created_is : (spec : Spec) → is_live ≡ false → queries_of queries client < s.limits.queries
      → step (state_of s queries) (event.Create client number spec) ≡ left_by (reply.Created s.version) s (queries ++ bare_query spec ∷ [])
  created_is spec free room =
      let count = count_tables s.places queries client in
      let less : nat_lt (queries_of queries client) s.limits.queries ≡ true = grind (arith, nat_tests) in
      rw (live_is ∙ free, ap (λ (k : ℕ). nat_lt k s.limits.queries) count ∙ less)
      (ap (λ qs. record { reply = reply.Created s.version; state = record (state_of s queries) { queries = qs } }) (sym (more_tables s.places queries (bare_query spec))))

  stop_by : (o : Option Query) → query_at (with_tables s.places queries) client number ≡ o → is_some o ≡ true → step (state_of s queries) (event.Stop client number) ≡ left_by reply.Stopped s (without_query queries client number)
  stop_by None e live = cc
  stop_by (Some q) e live =
      ap (stop (state_of s queries) client number) e
      ∙ ap (λ qs. record { reply = reply.Stopped; state = record (state_of s queries) { queries = qs } }) (sym (out_tables s.places queries client number))

  pub stopped_is : is_live ≡ true → step (state_of s queries) (event.Stop client number) ≡ left_by reply.Stopped s (without_query queries client number)
  stopped_is live = stop_by (query_at (with_tables s.places queries) client number) refl (live_is ∙ live)

  stop_none : (o : Option Query) → query_at (with_tables s.places queries) client number ≡ o → is_some o ≡ false → step (state_of s queries) (event.Stop client number) ≡ left_by reply.NoQuery s queries
  stop_none None e live = ap (stop (state_of s queries) client number) e
  stop_none (Some q) e live = cc

  pub no_query_is : is_live ≡ false → step (state_of s queries) (event.Stop client number) ≡ left_by reply.NoQuery s queries
  no_query_is free = stop_none (query_at (with_tables s.places queries) client number) refl (live_is ∙ free)

  -- the state after a stop, whether or not there was a query
  pub stop_state : state_of s (without_query queries client number) ≡ (step (state_of s queries) (event.Stop client number)).state
  stop_state =
      by_test is_live
      (λ live. sym (ap (λ (o : StepResult). o.state) (stopped_is live)))
      (λ free. ap (state_of s) (out_none queries client number free) ∙ sym (ap (λ (o : StepResult). o.state) (no_query_is free)))
