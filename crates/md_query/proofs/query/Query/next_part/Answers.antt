use Rattle.std.proofs.Common.{rules, ◌≡◌, IfOk, List, drop, map, subst}
use Rattle.md_world.specs.declared.Row.{Row}
use Rattle.md_world.specs.Tables.{shown}
use Rattle.md_machine.specs.Answers.{shown_answer}
use Rattle.md_machine.specs.Steps.{next_part, most_hits}
use Rattle.md_store.specs.Places.{table_at}
use Rattle.md_query.specs.Asked.{settled}
use Rattle.md_query.specs.Rows.{rows_of}
use Rattle.md_query.specs.Standings.{nameless}
use Rattle.md_query.proofs.Hits.{shown_left}
use Rattle.md_query.proofs.query.Query.next_part.Goals as goal

pub returns-clause-reply : goal.returns-clause-reply
returns-clause-reply g c =
    let q = c.args.self.now in
    let left : map shown (rows_of c.hits_after-left.result.now) ≡ drop c.args.given (shown_answer q.spec (table_at c.args.store.now.places q.base)) = search (rules, shown_left) in
    subst (λ (left : List Row). IfOk c.part.result (λ a. a.0 ≡ (next_part (nameless c.args.store.now.places q) c.args.given left (most_hits q.spec.batch c.args.given) c.args.now_ms).reply)) left (c.part.ensures.reply c.args.store.now.places)

pub returns-clause-query : goal.returns-clause-query
returns-clause-query g c =
    let q = c.args.self.now in
    let left : map shown (rows_of c.hits_after-left.result.now) ≡ drop c.args.given (shown_answer q.spec (table_at c.args.store.now.places q.base)) = search (rules, shown_left) in
    subst (λ (left : List Row). IfOk c.part.result (λ a. nameless c.args.store.now.places (settled q a.1) ≡ (next_part (nameless c.args.store.now.places q) c.args.given left (most_hits q.spec.batch c.args.given) c.args.now_ms).query)) left (c.part.ensures.query c.args.store.now.places)
