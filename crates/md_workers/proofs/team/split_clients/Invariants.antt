use Rattle.std.proofs.Common.{◌≡◌, ◌++◌, length, map}
use Rattle.std.specs.Vec.Iter.{into_iter_items}
use Rattle.md_workers.specs.declared.actor.Actor.{Actor}
use Rattle.md_workers.specs.declared.actor.Role.TheVariants as role
use Rattle.md_workers.specs.Teams.{AreFresh, HasShared}
use Rattle.md_workers.proofs.team.split_clients.Given as goal

-- the clients so far have passes
abbrev pub invariant-loop-client : goal.invariant-loop-client
invariant-loop-client g l = record {
  front : l.yielded ++ into_iter_items l.client-iterator ≡ l.fn.clients.items;
  shared : HasShared (length l.actors.items) l.initial.first l.first;
  count : length l.actors.items ≡ length l.yielded;
  fresh : AreFresh l.initial.first l.actors.items;
  roles : map (λ (a : Actor). a.role) l.actors.items ≡ map role.Client l.yielded;
}
