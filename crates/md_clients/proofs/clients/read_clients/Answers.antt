use Rattle.std.proofs.Common.{rules, ◌+◌, ◌<◌, ◌≤◌, ◌∙◌, ◌∷◌, [], ◌++◌, refl, sym, subst, arith}
use Rattle.md_workers.specs.declared.actor.Client.{Client}
use Rattle.md_clients.specs.Asks.{asks_in}
use Rattle.md_clients.specs.Gathered.{AreBelow}
use Rattle.md_clients.proofs.Nearest.{IsFrom, found_from}
use Rattle.md_clients.proofs.Together.{none_below, one_more, all_found}
use Rattle.md_clients.proofs.clients.read_clients.Goals as goal

pub loop-id-init : goal.loop-id-init
loop-id-init c = record { so = rw c.new-clients.ensures.items (none_below (asks_in c.args.start.now.moment c.args.start.now.offset c.args.lines.now)); small = omega arith }

pub loop-id-smaller : goal.loop-id-smaller
loop-id-smaller c =
    let found = sym c.next_client.ensures ∙ c.in-Some.is in
    let from : c.loop-id.least ≤ c.in-Some.id = subst (IsFrom c.loop-id.least) found (found_from c.loop-id.least _ c.args.lines.now tt) in
    let small : c.in-Some.id < 256 = search rules in
    omega (arith, from, small, c.from-least.ensures)

pub loop-id-preserved : goal.loop-id-preserved
loop-id-preserved c =
    let now = c.args.start.now.moment in
    let offset = c.args.start.now.offset in
    let lines = c.args.lines.now in
    let l = c.loop-id in
    let id = c.in-Some.id in
    let found = sym c.next_client.ensures ∙ c.in-Some.is in
    let new : Client = record { id = id; events = c.in_ok-events.events } in
    let small : id < 256 = search rules in
    let more : AreBelow (asks_in now offset lines) (id + 1) (l.clients.items ++ new ∷ []) = one_more now offset lines l.least id l.clients.items new refl c.in_ok-events.ensures found l.invariant.so in
    record {
      so = rw (c.from-least.ensures, c.in_ok-push.ensures.items) more;
      small = omega (arith, small, c.from-least.ensures);
    }

pub returns-clause-ask : goal.returns-clause-ask
returns-clause-ask c = all_found c.args.start.now.moment c.args.start.now.offset c.args.lines.now c.loop-id.least c.loop-id.clients.items (sym c.next_client.ensures ∙ c.in_default.is) c.loop-id.invariant.so

pub returns-clause-few : goal.returns-clause-few
returns-clause-few c = let few = c.loop-id.invariant.so.few in let small = c.loop-id.invariant.small in omega arith
