use Rattle.std.proofs.Common.{◌≡◌, length, sym, ap, ◌∙◌, arith, rules}
use Rattle.std.specs.Prelude.{Some, None, slice_get}
use Rattle.md_store.specs.Places.{places_of, place_in}
use Rattle.md_store.specs.Stores.{Stored}
use Rattle.md_store.proofs.Placing.{length-places_of}
use Rattle.md_store.proofs.Reading.{path_there, place_own, within_some, key_place}
use Rattle.md_store.proofs.store.Store.path_of.Goals as goal

pub unreachable-requires : goal.unreachable-requires
unreachable-requires c =
    let s = c.self.inside in
    let count = length-places_of s.paths.keys s.slots.items c.self.invariant.same in
    let same = c.self.invariant.same in
    let seen : length (places_of s.paths.keys s.slots.items) ≡ length c.args.self.now.places = ap (λ (x : Stored). length x.places) c.self.view_is in
    let within = c.requires in
    let none : slice_get s.paths.keys c.args.place ≡ None = search rules in
    within_some s.paths.keys c.args.place (omega arith) none

pub returns-clause-path : goal.returns-clause-path
returns-clause-path c =
    let s = c.self.inside in
    let same = c.self.invariant.same in
    let there : slice_get s.paths.keys c.args.place ≡ Some c.in-Some.path.now = search rules in
    let x = key_place s.paths.keys s.slots.items c.args.place c.in-Some.path.now same there in
    rw (← c.self.view_is) (sym x.2 ∙ sym (path_there (places_of s.paths.keys s.slots.items) c.args.place x.0 x.1))

pub returns-clause-place : goal.returns-clause-place
returns-clause-place c =
    let s = c.self.inside in
    let same = c.self.invariant.same in
    let there : slice_get s.paths.keys c.args.place ≡ Some c.in-Some.path.now = search rules in
    let x = key_place s.paths.keys s.slots.items c.args.place c.in-Some.path.now same there in
    rw (← c.self.view_is) (ap (place_in (places_of s.paths.keys s.slots.items)) (sym x.2) ∙ place_own s.version (places_of s.paths.keys s.slots.items) c.args.place x.0 c.self.invariant.places x.1)
