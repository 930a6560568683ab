-- Clients and workers that run side by side.
use Rattle.std.specs.Prelude.{◌≡◌, ℕ, zero, suc, ◌+◌, ◌*◌, ◌<◌, ◌==◌, Bool, false, List, [], ◌∷◌, ◌++◌, map, filter}
use Rattle.std.specs.List.{AllByRecursion, list_any, filter_map}
use Rattle.md_machine.specs.declared.Event.{Event}
use Rattle.md_world.specs.declared.TheConstants.Limits.{STANDARD}
use Rattle.md_machine.specs.States.{State, opening}
use Rattle.md_turn.specs.declared.journal.JournalEntry.{JournalEntry}
use Rattle.md_turn.specs.Passes as passes
use Rattle.md_turn.specs.Passes.{Known}
use Rattle.md_pool.specs.Claims.{Drawer, Pool, EachDrawnOnce}
use Rattle.md_merge.specs.Jobs.{Job, draws}
use Rattle.md_merge.specs.Journals.{is_by}
use Rattle.md_workers.specs.declared.actor.Actor.{Actor}
use Rattle.md_workers.specs.declared.actor.Client.{Client}
use Rattle.md_workers.specs.declared.actor.Ended.{Ended}
use Rattle.md_workers.specs.declared.actor.Role.{Role}
use Rattle.md_workers.specs.declared.actor.Role.TheVariants as role
use Rattle.md_workers.specs.Actors.{Ends, HasMade}

-- whether one of the clients has this number
abbrev pub is_among : List Client → ℕ → Bool
is_among clients id = list_any (λ (c : Client). c.id == id) clients

-- no two clients have one number
abbrev pub AreApart : List Client → Type 0
AreApart [] = Unit {0}
AreApart (c ∷ clients) = (is_among clients c.id ≡ false) × AreApart clients

-- The clients ask these events: no two have one number, each asks its own in order, and no other client asks any.
pub record Ask (asked : List Event) (clients : List Client) : Type 0 where
  pub apart : AreApart clients
  pub each : AllByRecursion (λ (c : Client). c.events ≡ filter (is_by c.id) asked) clients
  pub all : (id : ℕ) → is_among clients id ≡ false → filter (is_by id) asked ≡ []

-- how many acts, and for a worker how many claims, an actor may make
abbrev pub actor_share : ℕ
actor_share = 1099511627776

-- the pass of an actor that has done nothing yet, split from this one
abbrev pub fresh_pass : Known → Known
fresh_pass first = record { id = first.id; share = actor_share; seen = first.seen; own = []; refused = 0 }

-- the seat of a worker that has done nothing yet
abbrev pub fresh_seat : Pool → Drawer
fresh_seat pool = record { id = pool.id; share = actor_share; drawn = [] }

-- so many workers with new seats
abbrev pub workers_of : Drawer → ℕ → List Role
workers_of seat zero = []
workers_of seat (suc n) = role.Worker seat ∷ workers_of seat n

-- the clients, and then so many workers
abbrev pub roles_of : Pool → List Client → ℕ → List Role
roles_of pool clients workers = map (λ (c : Client). role.Client c) clients ++ workers_of (fresh_seat pool) workers

-- new passes of this one's lock, which have seen what it has
abbrev pub AreFresh : Known → List Actor → Type 0
AreFresh first actors = AllByRecursion (λ (a : Actor). a.pass ≡ fresh_pass first) actors

-- the shares of so many actors moved from a pass
abbrev pub HasShared : ℕ → Known → Known → Type 0
HasShared actors before after = (after ≡ record before { share = after.share }) × (after.share + actors * actor_share ≡ before.share)

-- the shares of so many workers moved from a seat
abbrev pub HasSharedSeat : ℕ → Drawer → Drawer → Type 0
HasSharedSeat workers before after = (after ≡ record before { share = after.share }) × (after.share + workers * actor_share ≡ before.share)

-- each of the first list has the relation to that of the second at its place
abbrev pub InPairs : {A B : Type 0} → (A → B → Type 0) → List A → List B → Type 0
InPairs P [] [] = Unit {0}
InPairs P [] (y ∷ ys) = ⊥
InPairs P (x ∷ xs) [] = ⊥
InPairs P (x ∷ xs) (y ∷ ys) = P x y × InPairs P xs ys

-- what became of the actors
abbrev pub AreRun : List Job → List Actor → List Ended → Type 0
AreRun jobs actors ended = InPairs (Ends jobs) actors ended

-- A run of clients and workers that has ended: a pass drew the tickets of the jobs; actors of the clients and of the workers
-- were split from it; all ended, and memory was refused to none; then the claims and the lock were closed.
pub record IsRun (jobs : List Job) (asked : List Event) (clients : List Client) (workers : ℕ) (state : State) (journal : List JournalEntry) : Type 0 where
  pub pool : Pool
  pub opened : Known  -- the pass with which the lock was made
  pub drawn : Known  -- the same once the tickets are drawn
  pub first : Known  -- and once the actors are split off
  pub seat : Drawer
  pub actors : List Actor
  pub ended : List Ended
  pub some : 0 < workers
  pub none : opened.own ≡ []
  pub made : HasMade opened drawn (draws jobs)
  pub own : first.own ≡ drawn.own
  pub unused : seat.drawn ≡ []
  pub fresh : AreFresh drawn actors
  pub roles : map (λ (a : Actor). a.role) actors ≡ roles_of pool clients workers
  pub run : AreRun jobs actors ended
  pub whole : AllByRecursion (λ (e : Ended). e.refused ≡ false) ended
  pub closed : passes.Ended (opening STANDARD) (first ∷ map (λ (e : Ended). e.pass) ended) state journal
  pub once : EachDrawnOnce (seat ∷ filter_map (λ (e : Ended). e.seat) ended)
  pub ask : Ask asked clients
