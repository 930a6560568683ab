use Rattle.std.proofs.Common.{◌≡◌, ◌+◌, ◌≤◌, ℕ, true, length, refl, sym, ap, ◌∙◌, subst, arith}
use Rattle.std.specs.Prelude.{Some, None, IsSome, ◌==◌}
use Rattle.std.proofs.lemmas.Bool.Decides.{nat_tests}
use Rattle.md_world.specs.Tickets.{ticket_at, without_ticket}
use Rattle.md_world.specs.Tables.{row_of}
use Rattle.md_store.specs.contracts.store.Store.{the_view}
use Rattle.md_store.specs.Chains.{HasPath, one_if}
use Rattle.md_store.specs.Open.{tickets_of}
use Rattle.md_store.specs.Places.{places_of, with_commit, table_at, kept_of, stamps_of}
use Rattle.md_store.specs.Stores.{Stored, IsReady}
use Rattle.md_store.proofs.Opening.{drawn_less, one_less}
use Rattle.md_store.proofs.Placing.{length-places_of}
use Rattle.md_store.proofs.Tabling.{places_commit, table_commit, table_earlier, kept_commit, stamps_commit}
use Rattle.md_store.proofs.Applying.{slot_ordered, length_commit, one_at_most}
use Rattle.md_store.proofs.store.Store.apply.Goals as goal

pub close-requires : goal.close-requires
close-requires c = record { drawn = (c.self.inside.drawn, c.self.invariant.tickets) }

pub commit_to-requires-clause-ordered : goal.commit_to-requires-clause-ordered
commit_to-requires-clause-ordered c k slot e =
    let s = c.self.inside in
    slot_ordered s.version s.paths.keys s.slots.items k slot c.self.invariant.same c.self.invariant.places e

pub commit_to-requires-clause-is_new : goal.commit_to-requires-clause-is_new
commit_to-requires-clause-is_new c e =
    let s = c.self.inside in
    let r : IsReady (the_view s) c.args.ready = rw c.self.view_is c.requires in
    let count = length-places_of s.paths.keys s.slots.items c.self.invariant.same in
    let here : (c.args.ready.place == length (places_of s.paths.keys s.slots.items)) ≡ true = grind (arith, nat_tests) in
    r.is_new ∙ here

pub invariant_of-self : goal.invariant_of-self
invariant_of-self c =
    let s = c.self.inside in
    let k = c.self.invariant in
    let ready = c.args.ready in
    let old = places_of s.paths.keys s.slots.items in
    let r : IsReady (the_view s) ready = rw c.self.view_is c.requires in
    let t = r.ticket.0 in
    let tickets = tickets_of s.tickets.entries in
    let is : ticket_at tickets ready.ticket ≡ Some t = r.ticket.1 in
    let there : IsSome (ticket_at tickets ready.ticket) = rw is refl in
    let less = one_less tickets ready.ticket there in
    let left : tickets_of c.close.new.tickets.entries ≡ without_ticket tickets ready.ticket = c.close.ensures.closed ∙ ap (without_ticket tickets) c.ticket.ensures in
    let count-old = length-places_of s.paths.keys s.slots.items k.same in
    let count-new = length-places_of c.commit_to.new.paths.keys c.commit_to.new.slots.items c.commit_to.ensures.same in
    let within : length old ≤ s.limits.paths = omega (arith, k.stamped) in
    let sized = rw r.ticket.2 at (length_commit (the_view s) t ready.ticket ready.ticket (s.version + 1) ready.row is r.allowed within) in
    let seen = c.commit_to.ensures.places in
    let long : length (places_of c.commit_to.new.paths.keys c.commit_to.new.slots.items) ≡ length (with_commit old ready.path ready.ticket (s.version + 1) ready.row) = ap length seen in
    let few = k.few in
    let added = c.added.ensures in
    let one : one_if ready.row ≤ 1 = one_at_most ready.row in
    record {
      same = c.commit_to.ensures.same;
      places = rw seen (places_commit s.version (s.version + 1) ready.path ready.ticket ready.row old (omega arith) r.own k.places);
      tickets = rw left (drawn_less tickets s.drawn ready.ticket k.tickets);
      counted = rw left (omega (arith, k.counted));
      drawn = k.drawn;
      pins = k.pins;
      stamped = omega arith;
      kept = ap (λ (n : ℕ). n + c.added.result) k.kept ∙ ap (λ (n : ℕ). kept_of old + n) added ∙ sym (kept_commit (s.version + 1) ready.path ready.ticket ready.row old) ∙ ap kept_of (sym seen);
      few = omega arith;
      chain_room = λ place e. absurd (none_some place e);
      place_room = λ e. absurd (none_some (length c.commit_to.new.slots.items) e);
    }
  where
    none_some : (place : ℕ) → None ≡ Some place → ⊥
    none_some place e = cc

pub returns-clause-stamps : goal.returns-clause-stamps
returns-clause-stamps c =
    let s = c.self.inside in
    let ready = c.args.ready in
    let old = places_of s.paths.keys s.slots.items in
    rw (← c.self.view_is) (ap stamps_of c.commit_to.ensures.places ∙ stamps_commit (s.version + 1) ready.path ready.ticket ready.row old)

pub returns-clause-newest : goal.returns-clause-newest
returns-clause-newest c change e =
    let s = c.self.inside in
    let ready = c.args.ready in
    let old = places_of s.paths.keys s.slots.items in
    let r : IsReady (the_view s) ready = rw c.self.view_is c.requires in
    let own : HasPath ready.path (row_of ready.path change) = subst (HasPath ready.path) e r.own in
    rw (← c.self.view_is) (ap (λ ps. table_at ps (s.version + 1)) c.commit_to.ensures.places
    ∙ ap (λ row. table_at (with_commit old ready.path ready.ticket (s.version + 1) row) (s.version + 1)) e
    ∙ table_commit s.version (s.version + 1) ready.path ready.ticket change old (omega arith) own c.self.invariant.places)

pub returns-clause-earlier : goal.returns-clause-earlier
returns-clause-earlier c version le =
    let s = c.self.inside in
    let ready = c.args.ready in
    let old = places_of s.paths.keys s.slots.items in
    let le' : version ≤ s.version = subst (λ (x : Stored). version ≤ x.version) (sym c.self.view_is) le in
    rw (← c.self.view_is) (ap (λ ps. table_at ps version) c.commit_to.ensures.places ∙ table_earlier (s.version + 1) version ready.path ready.ticket ready.row old (omega arith))
