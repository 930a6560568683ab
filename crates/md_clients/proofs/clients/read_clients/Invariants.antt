use Rattle.std.proofs.Common.{◌-◌, ◌≤◌}
use Rattle.md_clients.specs.Asks.{asks_in}
use Rattle.md_clients.specs.Gathered.{AreBelow}
use Rattle.md_clients.proofs.clients.read_clients.Given as goal

abbrev pub invariant-loop-id : goal.invariant-loop-id
invariant-loop-id l =
    record {
      so : AreBelow (asks_in l.start.moment l.start.offset l.lines) l.least l.clients.items;
      small : l.least ≤ 256;
    }

abbrev pub decreases-loop-id : goal.decreases-loop-id
decreases-loop-id l = 256 - l.least
