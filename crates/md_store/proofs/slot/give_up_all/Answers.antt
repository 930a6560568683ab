use Rattle.std.proofs.Common.{◌≡◌, ◌<◌, ◌≤◌, length, map, ap, ◌∙◌, arith}
use Rattle.std.proofs.lemmas.List.{length-map}
use Rattle.std.proofs.lemmas.List.Edits.{map_over_more}
use Rattle.md_store.specs.Places.{bare, bare_seen, rows_in}
use Rattle.md_store.proofs.Giving.{lives_set, lives_at}
use Rattle.md_store.proofs.slot.give_up_all.Goals as goal

pub overflow_add-given : goal.overflow_add-given
overflow_add-given c =
    let now = map bare c.loop-place.slots.items in
    let given = c.give_up_at-given.ensures.given in
    let size = length-map c.loop-place.slots.items bare in
    let same = c.loop-place.invariant.len in
    let at : length given.before.1 ≤ rows_in now = lives_at now c.loop-place.place given.before (omega (arith, c.loop-place.slots.ok.0, c.args.slots.now.ok.0)) given.read in
    let all = c.loop-place.invariant.count in
    let few = c.requires.few in
    let some = given.counted in
    omega arith

pub loop-place-preserved : goal.loop-place-preserved
loop-place-preserved c =
    let now = map bare c.loop-place.slots.items in
    let old = map bare c.args.slots.now.items in
    let i = c.loop-place.place in
    let given = c.give_up_at-given.ensures.given in
    let size-now = length-map c.loop-place.slots.items bare in
    let size-old = length-map c.args.slots.now.items bare in
    let same = c.loop-place.invariant.len in
    let lt-old : i < length old = omega (arith, c.args.slots.now.ok.0) in
    let lt-now : i < length now = omega (arith, c.args.slots.now.ok.0) in
    let set = lives_set now i given.before (bare_seen c.args.newest c.args.pins.now given.before) lt-now given.read in
    let new : rows_in (map bare c.give_up_at-given.new.slots.items) ≡ rows_in _ = ap rows_in given.set in
    let all = c.loop-place.invariant.count in
    let some = given.counted in
    record {
      len = c.give_up_at-given.ensures.len ∙ same;
      seen = given.set ∙ map_over_more (bare_seen c.args.newest c.args.pins.now) old now i given.before lt-old c.loop-place.invariant.seen given.read;
      count = omega arith;
    }
