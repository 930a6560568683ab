use Rattle.md_index.specs.Keys.{Grows}
use Rattle.md_index.proofs.Keying.{KeyedFacts}
use Rattle.md_index.proofs.orders.add_each.Given as goal

-- no key is lost, and each text has its keys or is left
abbrev pub invariant-loop-fact : goal.invariant-loop-fact
invariant-loop-fact l = Grows l.initial.orders l.orders × KeyedFacts l.orders l.facts l.fact-index
