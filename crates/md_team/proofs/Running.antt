-- What a team needs to run and to end, and that a team that has ended is a run of its jobs.
use Rattle.std.proofs.Common.{◌≡◌, ℕ, suc, ◌+◌, ◌<◌, ◌≤◌, false, List, [], ◌∷◌, length, map, All, refl, ◌∙◌, ap, arith, Result, Ok, Err, IfOk, OnOk}
use Rattle.std.specs.List.{AllByRecursion, filter_map}
use Rattle.std.proofs.lemmas.List.Elements.{All-cons}
use Rattle.atomic_table.specs.Seated.{TableId}
use Rattle.md_world.specs.declared.TheConstants.Limits.{STANDARD}
use Rattle.md_machine.specs.declared.Event.{Event}
use Rattle.md_machine.specs.States.{State, opening}
use Rattle.md_turn.specs.declared.journal.JournalEntry.{JournalEntry}
use Rattle.md_turn.specs.Journal.{total_of}
use Rattle.md_turn.specs.Turns.{whole_share}
use Rattle.md_turn.specs.Passes.{Known}
use Rattle.md_turn.specs.Passes as passes
use Rattle.md_pool.specs.Claims as claims
use Rattle.md_pool.specs.Claims.{Drawer, Pool, EachDrawnOnce}
use Rattle.md_merge.specs.Jobs.{Job}
use Rattle.md_merge.specs.Merging.{IsMerged}
use Rattle.md_workers.specs.declared.actor.Actor.{Actor}
use Rattle.md_workers.specs.declared.actor.Client.{Client}
use Rattle.md_workers.specs.declared.actor.Ended.{Ended}
use Rattle.md_workers.specs.Teams.{actor_share, Ask, AreRun, IsRun}
use Rattle.md_workers.proofs.Merged.{team_merged}
use Rattle.md_workers.proofs.Totals.{may_run, ids_are, shares_are, seats_back}
use Rattle.md_team.specs.Teams.{IsReady, MayJoin}

module _ (id : TableId) (jobs : List Job) (clients : List Client) (w : ℕ) (pool : Pool) (opened first : Known) (whole seat : Drawer) (actors : List Actor) (ready : IsReady jobs clients w pool opened first whole seat actors) (own : opened.id ≡ id) where
  -- the actors may run
  pub joins : pool.numbers ≡ length jobs → length jobs < 4294967296 → All (λ (c : Client). length c.events ≤ actor_share) clients → All (MayJoin id pool jobs) actors
  joins numbers few each k d below = (
    numbers,
    few,
    may_run id pool jobs ready.drawn clients w actors (omega arith) (ready.same.0 ∙ own) ready.fresh ready.roles each k d below,
  )

  module _ (ended : List Ended) (run : AreRun jobs actors ended) where
    -- all passes are of the lock
    pub all_passes : All (λ (p : Known). p.id ≡ id) (first ∷ map (λ (e : Ended). e.pass) ended)
    all_passes =
        All-cons (λ (p : Known). p.id ≡ id) first (map (λ (e : Ended). e.pass) ended)
        (ap (λ (p : Known). p.id) ready.shared.0 ∙ ready.same.0 ∙ own)
        (ids_are id jobs ready.drawn actors ended (ready.same.0 ∙ own) ready.fresh run)

    -- and have all shares
    pub all_shares : opened.share ≡ whole_share → total_of (λ (p : Known). p.share) (first ∷ map (λ (e : Ended). e.pass) ended) ≡ whole_share
    all_shares share = ap (λ n. first.share + n) (shares_are jobs ready.drawn actors ended ready.fresh run) ∙ ready.shared.1 ∙ ready.same.1 ∙ share

    -- all seats are of the claims
    pub all_seats : whole.id ≡ pool.id → All (λ (s : Drawer). s.id ≡ pool.id) (seat ∷ filter_map (λ (e : Ended). e.seat) ended)
    all_seats is =
        All-cons (λ (s : Drawer). s.id ≡ pool.id) seat (filter_map (λ (e : Ended). e.seat) ended)
        (ap (λ (s : Drawer). s.id) ready.claims.0 ∙ is)
        (seats_back pool jobs clients w actors ended ready.roles run).ids

    -- and have all shares
    pub all_claims : whole.share ≡ whole_share → claims.total_of (λ (s : Drawer). s.share) (seat ∷ filter_map (λ (e : Ended). e.seat) ended) ≡ whole_share
    all_claims share = ap (λ n. seat.share + n) (seats_back pool jobs clients w actors ended ready.roles run).shares ∙ ready.claims.1 ∙ share

    -- the team has run
    pub has_run : 0 < w → opened.own ≡ [] → whole.drawn ≡ [] → AllByRecursion (λ (e : Ended). e.refused ≡ false) ended → EachDrawnOnce (seat ∷ filter_map (λ (e : Ended). e.seat) ended)
        → (state : State) (journal : List JournalEntry) → passes.Ended (opening STANDARD) (first ∷ map (λ (e : Ended). e.pass) ended) state journal
        → (asked : List Event) → Ask asked clients → IsRun jobs asked clients w state journal
    has_run some none unused refused once state journal closed asked ask =
        record {
          pool = pool;
          opened = opened;
          drawn = ready.drawn;
          first = first;
          seat = seat;
          actors = actors;
          ended = ended;
          some = some;
          none = none;
          made = ready.made;
          own = ap (λ (p : Known). p.own) ready.shared.0;
          unused = ap (λ (s : Drawer). s.drawn) ready.claims.0 ∙ unused;
          fresh = ready.fresh;
          roles = ready.roles;
          run = run;
          whole = refused;
          closed = closed;
          once = once;
          ask = ask;
        }

pub ok_all : {V E : Type 0} (r : Result V E) (A B : Type 0) (P Q : V → Type 0) → (A → B → (v : V) → P v → Q v) → OnOk r A → OnOk r B → IfOk r P → IfOk r Q
ok_all (Ok v) A B P Q f a b p = f a b v p
ok_all (Err e) A B P Q f a b p = tt

-- a run's journal is merged
pub run_merged : (jobs : List Job) (asked : List Event) (clients : List Client) (w : ℕ) (state : State) (journal : List JournalEntry) → IsRun jobs asked clients w state journal → IsMerged jobs asked journal
run_merged jobs asked clients w state journal r =
    team_merged jobs asked clients w r.pool r.opened r.drawn r.first r.seat r.actors r.ended state journal r.some r.none r.made r.own r.unused r.fresh r.roles r.run r.whole r.closed r.once r.ask

pub lengths : {A B : Type 0} (f : A → B) (xs : List A) → length (map f xs) ≡ length xs
lengths f [] = refl
lengths f (x ∷ xs) = ap (λ n. suc n) (lengths f xs)
