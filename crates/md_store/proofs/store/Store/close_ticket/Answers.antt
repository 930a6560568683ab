use Rattle.std.proofs.Common.{◌≡◌, sym, ap, ◌∙◌, arith}
use Rattle.md_world.specs.Tickets.{without_ticket}
use Rattle.md_store.specs.contracts.store.Store.{the_view}
use Rattle.md_store.specs.Open.{tickets_of}
use Rattle.md_store.proofs.Opening.{drawn_less, fewer, none_open}
use Rattle.md_store.proofs.store.Store.close_ticket.Goals.{then-close, else-close}
use Rattle.md_store.proofs.store.Store.close_ticket.Goals as goal

pub close-requires : goal.close-requires
close-requires c = record { drawn = (c.self.inside.drawn, c.self.invariant.tickets) }

pub invariant_of-self : goal.invariant_of-self
invariant_of-self c =
    let s = c.self.inside in
    let k = c.self.invariant in
    let tickets = tickets_of s.tickets.entries in
    let less = fewer tickets c.args.ticket in
    let left : tickets_of c.close.new.tickets.entries ≡ without_ticket tickets c.args.ticket = c.close.ensures.closed in
    record {
      same = k.same;
      places = k.places;
      tickets = rw left (drawn_less tickets s.drawn c.args.ticket k.tickets);
      counted = rw left (omega (arith, k.counted));
      drawn = k.drawn;
      pins = k.pins;
      stamped = k.stamped;
      kept = k.kept;
      few = k.few;
      chain_room = k.chain_room;
      place_room = k.place_room;
    }

pub returns-clause-err : goal.returns-clause-err
returns-clause-err c =
    let s = c.self.inside in
    let tickets = tickets_of s.tickets.entries in
    elim c.if-close.branch [
      | then-close w ↦ rw w.result-is tt
      | else-close w ↦
          let same = none_open tickets c.args.ticket (sym c.close.ensures.was_open ∙ w.if-close.false) in
          rw (w.result-is, ← c.self.view_is) (ap (λ left. record (the_view s) { tickets = left }) (c.close.ensures.closed ∙ same))
    ]
