-- What an actor has done.
use Rattle.std.specs.Prelude.{◌≡◌, ℕ, ◌+◌, ◌<◌, ◌≤◌, List, [], ◌∷◌, ◌++◌, length, Option, None, Some, false}
use Rattle.std.specs.List.{AllByRecursion}
use Rattle.atomic_table.specs.Seated.{TableId}
use Rattle.md_machine.specs.declared.Event.{Event}
use Rattle.md_turn.specs.declared.journal.JournalEntry.{JournalEntry}
use Rattle.md_turn.specs.Passes.{Known, made_by}
use Rattle.md_pool.specs.Claims.{Drawer, Pool}
use Rattle.md_merge.specs.Jobs.{Job}
use Rattle.md_merge.specs.Journals.{events_in}
use Rattle.md_merge.specs.Joining.{ends_of_numbers}
use Rattle.md_workers.specs.declared.actor.Actor.{Actor}
use Rattle.md_workers.specs.declared.actor.Ended.{Ended}
use Rattle.md_workers.specs.declared.actor.Role.{Role}
use Rattle.md_workers.specs.declared.actor.Role.TheVariants as role

-- The pass has gained own entries of exactly these events, in order, each behind the journal that it had seen before.
pub record HasMade (before after : Known) (events : List Event) : Type 0 where
  pub gained : List JournalEntry
  pub own : after.own ≡ before.own ++ gained
  pub events_are : events_in gained ≡ events
  pub later : AllByRecursion (λ (e : JournalEntry). length before.seen < e.place) gained
  pub seen : length before.seen + length gained ≤ length after.seen

-- The last of the numbers drawn is past these, so the claim that drew it was answered None.
pub record IsAtEnd (numbers : ℕ) (drawn : List ℕ) : Type 0 where
  pub earlier : List ℕ
  pub last : ℕ
  pub drawn_is : drawn ≡ earlier ++ last ∷ []
  pub past : numbers ≤ last

-- The worker's pass made the ends of the jobs that its seat drew, in the order drawn, and no job was left to be drawn.
pub record HasWorked (jobs : List Job) (before after : Known) (seat : Drawer) : Type 0 where
  pub made : HasMade before after (ends_of_numbers jobs seat.drawn)
  pub at_end : IsAtEnd (length jobs) seat.drawn

-- a pass of the same lock with the same share
abbrev pub IsSamePass : Known → Known → Type 0
IsSamePass before after = (after.id ≡ before.id) × (after.share ≡ before.share)

-- a seat of the same claims with the same share
abbrev pub IsSameSeat : Drawer → Drawer → Type 0
IsSameSeat before after = (after.id ≡ before.id) × (after.share ≡ before.share)

-- a worker's seat is handed back, of the same claims and with the same share; a client has none
abbrev pub KeepsSeat : Role → Option Drawer → Type 0
KeepsSeat (role.Client client) handed = handed ≡ None
KeepsSeat (role.Worker seat) handed = (same : Drawer) × (handed ≡ Some same) × IsSameSeat seat same

-- what an actor with this role made where memory was never refused: a client all its events; a worker what its seat drew
abbrev pub HasDone : List Job → Role → Known → Known → Option Drawer → Type 0
HasDone jobs (role.Client client) before after handed = HasMade before after client.events
HasDone jobs (role.Worker seat) before after handed = (same : Drawer) × (handed ≡ Some same) × HasWorked jobs before after same

-- What becomes of an actor: its pass and its seat come back as the same, and where memory was never refused it has done all.
pub record Ends (jobs : List Job) (actor : Actor) (ended : Ended) : Type 0 where
  pub pass : IsSamePass actor.pass ended.pass
  pub seat : KeepsSeat actor.role ended.seat
  pub done : ended.refused ≡ false → HasDone jobs actor.role actor.pass ended.pass ended.seat

-- a worker's seat is of these claims
abbrev pub IsOfClaims : Pool → Role → Type 0
IsOfClaims pool (role.Client client) = Unit {0}
IsOfClaims pool (role.Worker seat) = seat.id ≡ pool.id

-- What an actor needs: acts for each of its events; for a worker a seat that drew no number, claims to draw all, and acts for
-- as many ends
abbrev pub HasRoom : List Job → Known → Role → Type 0
HasRoom jobs pass (role.Client client) = made_by pass + length client.events ≤ pass.share
HasRoom jobs pass (role.Worker seat) = (made_by pass + length jobs ≤ pass.share) × (length jobs < seat.share) × (seat.drawn ≡ [])

-- An actor may run with a lock of this id, with these claims and jobs.
pub record MayRun (id : TableId) (pool : Pool) (jobs : List Job) (actor : Actor) : Type 0 where
  pub pass : actor.pass.id ≡ id
  pub seat : IsOfClaims pool actor.role
  pub room : HasRoom jobs actor.pass actor.role
