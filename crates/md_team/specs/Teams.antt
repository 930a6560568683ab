-- A team: clients and workers with new passes and seats, once the tickets of the jobs are drawn.
use Rattle.std.specs.Prelude.{◌≡◌, ℕ, ◌<◌, List, map, length}
use Rattle.atomic_table.specs.Seated.{TableId}
use Rattle.md_turn.specs.Passes.{Known}
use Rattle.md_pool.specs.Claims.{Drawer, Pool}
use Rattle.md_merge.specs.Jobs.{Job, draws}
use Rattle.md_workers.specs.declared.actor.Actor.{Actor}
use Rattle.md_workers.specs.declared.actor.Client.{Client}
use Rattle.md_workers.specs.Actors.{HasMade, IsSamePass, MayRun}
use Rattle.md_workers.specs.Teams.{roles_of, AreFresh, HasShared, HasSharedSeat}

-- The tickets of the jobs were drawn with the pass that was opened, and passes and seats of the actors were split off.
pub record IsReady (jobs : List Job) (clients : List Client) (workers : ℕ) (pool : Pool) (opened first : Known) (whole seat : Drawer) (actors : List Actor) : Type 0 where
  pub drawn : Known  -- the pass once the tickets were drawn
  pub same : IsSamePass opened drawn
  pub made : HasMade opened drawn (draws jobs)
  pub shared : HasShared (length actors) drawn first
  pub claims : HasSharedSeat workers whole seat
  pub fresh : AreFresh drawn actors
  pub roles : map (λ (a : Actor). a.role) actors ≡ roles_of pool clients workers

-- An actor may run with a lock of this id, with these claims of the numbers of these jobs.
abbrev pub MayJoin : TableId → Pool → List Job → Actor → Type 0
MayJoin id pool jobs actor = (pool.numbers ≡ length jobs) × (length jobs < 4294967296) × MayRun id pool jobs actor
