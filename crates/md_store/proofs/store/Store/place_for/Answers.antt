use Rattle.std.proofs.Common.{◌≡◌, true, false, length, sym, ap, ◌∙◌, arith, cond}
use Rattle.std.specs.Prelude.{Some, None, nat_lt, slice_get}
use Rattle.std.proofs.lemmas.Bool.Decides.{nat_tests}
use Rattle.std.proofs.lemmas.Option.{slice_get-get_or}
use Rattle.md_world.specs.Tickets.{ticket_at}
use Rattle.md_store.specs.contracts.store.Store.{the_view}
use Rattle.md_store.specs.declared.ready.ReadyEnd.TheVariants as end
use Rattle.md_store.specs.Open.{with_path, tickets_of}
use Rattle.md_store.specs.Places.{places_of, place_in, place_or}
use Rattle.md_store.proofs.Placing.{length-places_of, number_places, place_there, slot_within}
use Rattle.md_store.proofs.Refusing.{refusal_there, refusal_absent}
use Rattle.md_store.proofs.store.Store.place_for.Goals as goal

pub returns-then-ticket-newer-clause-err : goal.returns-then-ticket-newer-clause-err
returns-then-ticket-newer-clause-err c =
    let s = c.self.inside in
    let t = with_path c.args.ticket c.in-Some.path.now in
    let i = c.in-Some-number_of.place in
    let slot = c.index.result.now in
    let same = c.self.invariant.same in
    let is : ticket_at (tickets_of s.tickets.entries) c.args.ticket ≡ Some t = sym c.in-Some.ensures in
    let at : place_in (places_of s.paths.keys s.slots.items) t.path ≡ Some i =
    sym (number_places t.path s.paths.keys s.slots.items same) ∙ sym c.number_of.ensures ∙ c.in-Some-number_of.is in
    let there : slice_get s.slots.items i ≡ Some slot =
    slice_get-get_or s.slots.items i slot (slot_within s.paths.keys s.slots.items t.path i same at) ∙ ap Some (sym c.index.ensures) in
    let x = place_there s.paths.keys s.slots.items i slot same there in
    let newer : nat_lt c.args.ticket slot.stamp ≡ true = grind (arith, nat_tests) in
    rw (← c.self.view_is) (refusal_there (the_view s) c.args.ticket t i (record { path = x.0; stamp = slot.stamp; rows = slot.chain.items }) is at x.2 ∙ ap (λ b. cond b (Some (end.Superseded slot.stamp)) None) newer)

pub returns-else-ticket-newer-clause-ok : goal.returns-else-ticket-newer-clause-ok
returns-else-ticket-newer-clause-ok c =
    let s = c.self.inside in
    let t = with_path c.args.ticket c.in-Some.path.now in
    let i = c.in-Some-number_of.place in
    let slot = c.index.result.now in
    let same = c.self.invariant.same in
    let is : ticket_at (tickets_of s.tickets.entries) c.args.ticket ≡ Some t = sym c.in-Some.ensures in
    let at : place_in (places_of s.paths.keys s.slots.items) t.path ≡ Some i =
    sym (number_places t.path s.paths.keys s.slots.items same) ∙ sym c.number_of.ensures ∙ c.in-Some-number_of.is in
    let there : slice_get s.slots.items i ≡ Some slot =
    slice_get-get_or s.slots.items i slot (slot_within s.paths.keys s.slots.items t.path i same at) ∙ ap Some (sym c.index.ensures) in
    let x = place_there s.paths.keys s.slots.items i slot same there in
    let older : nat_lt c.args.ticket slot.stamp ≡ false = grind (arith, nat_tests) in
    rw (← c.self.view_is) (record {
      ticket = t;
      there = is;
      allowed = refusal_there (the_view s) c.args.ticket t i (record { path = x.0; stamp = slot.stamp; rows = slot.chain.items }) is at x.2 ∙ ap (λ b. cond b (Some (end.Superseded slot.stamp)) None) older;
      place_is = ap (place_or (length (places_of s.paths.keys s.slots.items))) (sym at);
    })

pub returns-then-len-self-clause-err : goal.returns-then-len-self-clause-err
returns-then-len-self-clause-err c =
    let s = c.self.inside in
    let t = with_path c.args.ticket c.in-Some.path.now in
    let same = c.self.invariant.same in
    let is : ticket_at (tickets_of s.tickets.entries) c.args.ticket ≡ Some t = sym c.in-Some.ensures in
    let at : place_in (places_of s.paths.keys s.slots.items) t.path ≡ None =
    sym (number_places t.path s.paths.keys s.slots.items same) ∙ sym c.number_of.ensures ∙ c.in-None.is in
    let count = length-places_of s.paths.keys s.slots.items same in
    let sized = s.slots.ok.0 in
    let full : nat_lt (length (places_of s.paths.keys s.slots.items)) s.limits.paths ≡ false = grind (arith, nat_tests) in
    rw (← c.self.view_is) (refusal_absent (the_view s) c.args.ticket t is at ∙ ap (λ b. cond b None (Some end.StoreFull)) full)

pub returns-else-len-self-clause-ok : goal.returns-else-len-self-clause-ok
returns-else-len-self-clause-ok c =
    let s = c.self.inside in
    let t = with_path c.args.ticket c.in-Some.path.now in
    let same = c.self.invariant.same in
    let is : ticket_at (tickets_of s.tickets.entries) c.args.ticket ≡ Some t = sym c.in-Some.ensures in
    let at : place_in (places_of s.paths.keys s.slots.items) t.path ≡ None =
    sym (number_places t.path s.paths.keys s.slots.items same) ∙ sym c.number_of.ensures ∙ c.in-None.is in
    let count = length-places_of s.paths.keys s.slots.items same in
    let sized = s.slots.ok.0 in
    let room : nat_lt (length (places_of s.paths.keys s.slots.items)) s.limits.paths ≡ true = grind (arith, nat_tests) in
    let next : c.len-in-None.result ≡ length (places_of s.paths.keys s.slots.items) = omega arith in
    rw (← c.self.view_is) (record {
      ticket = t;
      there = is;
      allowed = refusal_absent (the_view s) c.args.ticket t is at ∙ ap (λ b. cond b None (Some end.StoreFull)) room;
      place_is = next ∙ ap (place_or (length (places_of s.paths.keys s.slots.items))) (sym at);
    })

pub index-requires : goal.index-requires
index-requires c =
    let s = c.self.inside in
    let same = c.self.invariant.same in
    let at = sym (number_places c.in-Some.path.now s.paths.keys s.slots.items same) ∙ sym c.number_of.ensures ∙ c.in-Some-number_of.is in
    omega (arith, s.slots.ok.0, slot_within s.paths.keys s.slots.items c.in-Some.path.now c.in-Some-number_of.place same at)

pub overflow_cast-result : goal.overflow_cast-result
overflow_cast-result c =
    let s = c.self.inside in
    let same = c.self.invariant.same in
    let at = sym (number_places c.in-Some.path.now s.paths.keys s.slots.items same) ∙ sym c.number_of.ensures ∙ c.in-Some-number_of.is in
    omega (arith, c.self.invariant.stamped, slot_within s.paths.keys s.slots.items c.in-Some.path.now c.in-Some-number_of.place same at)
