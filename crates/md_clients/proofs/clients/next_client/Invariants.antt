use Rattle.std.proofs.Common.{◌≡◌, None, drop}
use Rattle.md_clients.specs.Askers.{next_in}
use Rattle.md_clients.proofs.clients.next_client.Given as goal

abbrev pub invariant-loop-line : goal.invariant-loop-line
invariant-loop-line l = next_in l.least l.best (drop l.line-index l.lines) ≡ next_in l.least None l.lines
