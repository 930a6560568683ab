use Rattle.std.proofs.Common.{◌≡◌, ◌+◌, ◌++◌, length, map}
use Rattle.md_workers.specs.declared.actor.Actor.{Actor}
use Rattle.md_workers.specs.Teams.{fresh_seat, workers_of, AreFresh, HasShared, HasSharedSeat}
use Rattle.md_workers.proofs.team.split_workers.Given as goal

-- so many workers have passes and seats
abbrev pub invariant-loop : goal.invariant-loop
invariant-loop g l = record {
  shared : HasShared l.counter l.initial.first l.first;
  claims : HasSharedSeat l.counter l.initial.seat l.seat;
  count : length l.actors.items ≡ length l.initial.actors.items + l.counter;
  fresh : AreFresh l.initial.first l.initial.actors.items → AreFresh l.initial.first l.actors.items;
  roles : map (λ (a : Actor). a.role) l.actors.items ≡ map (λ (a : Actor). a.role) l.initial.actors.items ++ workers_of (fresh_seat l.claims) l.counter;
}
