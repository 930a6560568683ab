use Rattle.std.proofs.Common.{◌≡◌, ◌++◌, drop, filter}
use Rattle.md_merge.specs.Journals.{is_by}
use Rattle.md_clients.specs.Asks.{asks_in}
use Rattle.md_clients.proofs.asks.asks_by.Given as goal

abbrev pub invariant-loop-line : goal.invariant-loop-line
invariant-loop-line l =
    l.events ++ filter (is_by l.id) (asks_in l.start.moment l.start.offset (drop l.line-index l.lines)) ≡ filter (is_by l.id) (asks_in l.start.moment l.start.offset l.lines)
