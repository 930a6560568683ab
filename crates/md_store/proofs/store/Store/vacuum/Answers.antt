use Rattle.std.proofs.Common.{◌≡◌, ℕ, length, sym, ap, ◌∙◌, arith}
use Rattle.std.specs.Prelude.{None, Some}
use Rattle.md_store.specs.contracts.store.Store.{the_view}
use Rattle.md_store.specs.Places.{places_of, table_at}
use Rattle.md_store.proofs.Giving.{lives_kept, places_given}
use Rattle.md_store.proofs.Tabling.{places_vacuum, table_vacuum}
use Rattle.md_store.proofs.Exact.{shown_places}
use Rattle.md_store.proofs.store.Store.vacuum.Goals as goal

pub give_up_all-given-requires-clause-few : goal.give_up_all-given-requires-clause-few
give_up_all-given-requires-clause-few c =
    let s = c.self.inside in
    let all = lives_kept s.paths.keys s.slots.items c.self.invariant.same in
    omega (arith, c.self.invariant.kept)

pub overflow_cast-self : goal.overflow_cast-self
overflow_cast-self c =
    let s = c.self.inside in
    let all = lives_kept s.paths.keys s.slots.items c.self.invariant.same in
    omega (arith, c.self.invariant.kept, c.give_up_all-given.ensures.count)

pub overflow_sub-self : goal.overflow_sub-self
overflow_sub-self c =
    let s = c.self.inside in
    let all = lives_kept s.paths.keys s.slots.items c.self.invariant.same in
    omega (arith, c.self.invariant.kept, c.give_up_all-given.ensures.count)

pub invariant_of-self : goal.invariant_of-self
invariant_of-self c =
    let s = c.self.inside in
    let k = c.self.invariant in
    let new = c.give_up_all-given.new.slots in
    let len = c.give_up_all-given.ensures.len in
    let same : length s.paths.keys ≡ length new.items = k.same ∙ sym len in
    let all = lives_kept s.paths.keys s.slots.items k.same in
    let left = lives_kept s.paths.keys new.items same in
    let given = places_given s.version s.pins.items s.paths.keys s.slots.items new.items k.same (rw c.deref.ensures.value at c.give_up_all-given.ensures.seen) in
    let count = c.give_up_all-given.ensures.count in
    record {
      same = same;
      places = rw given (places_vacuum s.version s.pins.items (places_of s.paths.keys s.slots.items) k.places);
      tickets = k.tickets;
      counted = k.counted;
      drawn = k.drawn;
      pins = k.pins;
      stamped = omega (arith, k.stamped);
      kept = omega (arith, k.kept);
      few = omega (arith, k.few);
      chain_room = λ place e. absurd (none_some place e);
      place_room = λ e. absurd (none_some (length new.items) e);
    }
  where
    none_some : (place : ℕ) → None ≡ Some place → ⊥
    none_some place e = cc

pub returns-clause-state : goal.returns-clause-state
returns-clause-state c =
    let s = c.self.inside in
    let given = places_given s.version s.pins.items s.paths.keys s.slots.items c.give_up_all-given.new.slots.items c.self.invariant.same (rw c.deref.ensures.value at c.give_up_all-given.ensures.seen) in
    rw (← c.self.view_is) (ap (λ ps. record (the_view s) { places = ps; room = None }) given)

pub returns-clause-count : goal.returns-clause-count
returns-clause-count c =
    let s = c.self.inside in
    let k = c.self.invariant in
    let new = c.give_up_all-given.new.slots in
    let same : length s.paths.keys ≡ length new.items = k.same ∙ sym c.give_up_all-given.ensures.len in
    let all = lives_kept s.paths.keys s.slots.items k.same in
    let left = lives_kept s.paths.keys new.items same in
    let count = c.give_up_all-given.ensures.count in
    rw (← c.self.view_is) (omega arith)

pub returns-clause-shown : goal.returns-clause-shown
returns-clause-shown c version h =
    let s = c.self.inside in
    let given = places_given s.version s.pins.items s.paths.keys s.slots.items c.give_up_all-given.new.slots.items c.self.invariant.same (rw c.deref.ensures.value at c.give_up_all-given.ensures.seen) in
    let shown = rw (← c.self.view_is) at h in
    rw (← c.self.view_is) (ap (λ ps. table_at ps version) given ∙ table_vacuum s.version version s.pins.items (places_of s.paths.keys s.slots.items) shown)

pub returns-clause-exact : goal.returns-clause-exact
returns-clause-exact c =
    let s = c.self.inside in
    let given = places_given s.version s.pins.items s.paths.keys s.slots.items c.give_up_all-given.new.slots.items c.self.invariant.same (rw c.deref.ensures.value at c.give_up_all-given.ensures.seen) in
    rw given (shown_places s.version s.pins.items (places_of s.paths.keys s.slots.items) c.self.invariant.places)
