use Rattle.std.proofs.Common.{◌≡◌, map, take}
use Rattle.md_live.specs.Telling.{given_to}
use Rattle.md_live.proofs.session.Session.held_counts.Given as goal

abbrev pub invariant-loop-client : goal.invariant-loop-client
invariant-loop-client l = l.counts ≡ map (given_to l.self.state) (take l.client-index l.clients)
