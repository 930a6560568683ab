use Rattle.std.proofs.Common.{◌≡◌, ◌+◌, ◌++◌, ◌∷◌, [], ap, ◌∙◌, arith, length-append}
use Rattle.md_store.specs.Open.{tickets_of, with_path}
use Rattle.md_store.proofs.Opening.{drawn_more}
use Rattle.md_store.proofs.store.Store.draw_ticket.Goals as goal

pub open-requires : goal.open-requires
open-requires c = record { drawn = (c.self.inside.drawn, c.self.invariant.tickets, omega arith) }

pub invariant_of-self-2 : goal.invariant_of-self-2
invariant_of-self-2 c =
    let s = c.self.inside in
    let k = c.self.invariant in
    let tickets = tickets_of s.tickets.entries in
    let path = c.args.path.now in
    let one = length-append tickets (with_path (s.drawn + 1) path ∷ []) in
    let more : tickets_of c.open.new.tickets.entries ≡ tickets ++ with_path (s.drawn + 1) path ∷ [] =
    c.in_ok-open.ensures.ok ∙ ap (λ p. tickets ++ with_path (s.drawn + 1) p ∷ []) c.in_ok-path.ensures in
    record {
      same = k.same;
      places = k.places;
      tickets = rw more (drawn_more tickets s.drawn path k.tickets);
      counted = rw more (omega (arith, k.counted));
      drawn = omega arith;
      pins = k.pins;
      stamped = k.stamped;
      kept = k.kept;
      few = k.few;
      chain_room = k.chain_room;
      place_room = k.place_room;
    }
