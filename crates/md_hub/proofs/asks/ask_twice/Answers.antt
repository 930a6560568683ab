use Rattle.std.proofs.Common.{◌≡◌}
use Rattle.std.specs.Prelude.{None}
use Rattle.md_machine.specs.States.{query_at}
use Rattle.md_hub.proofs.Answering.{none_reply, none_queries}
use Rattle.md_hub.proofs.asks.ask_twice.Goals as goal

pub returns-in-None-clause-reply : goal.returns-in-None-clause-reply
returns-in-None-clause-reply g c =
    let qs = c.args.queries.now.items in
    let none : query_at qs c.args.call.client c.args.call.number ≡ None = rw c.deref.ensures.value at c.in-None.ensures in
    none_reply c.args.store.now qs c.args.call none

pub returns-in-None-clause-copy : goal.returns-in-None-clause-copy
returns-in-None-clause-copy g c = returns-in-None-clause-reply g c

pub returns-in-None-clause-queries : goal.returns-in-None-clause-queries
returns-in-None-clause-queries g c =
    let qs = c.args.queries.now.items in
    let none : query_at qs c.args.call.client c.args.call.number ≡ None = rw c.deref.ensures.value at c.in-None.ensures in
    none_queries c.args.store.now qs c.args.call none
