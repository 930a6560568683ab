use Rattle.std.proofs.Common.{◌≡◌, ◌<◌, length, sym, ap, subst, ◌∙◌, arith}
use Rattle.std.specs.Prelude.{Some, slice_get}
use Rattle.std.proofs.lemmas.Option.{slice_get-get_or}
use Rattle.md_store.specs.Chains.{seen_in, IsOrdered}
use Rattle.md_store.specs.Places.{places_of}
use Rattle.md_store.specs.Stores.{Stored}
use Rattle.md_store.proofs.Applying.{slot_ordered}
use Rattle.md_store.proofs.Placing.{length-places_of}
use Rattle.md_store.proofs.Reading.{slot_row}
use Rattle.md_store.proofs.store.Store.row_at.Goals as goal

pub index-requires : goal.index-requires
index-requires g c =
    let s = c.self.inside in
    let count = length-places_of s.paths.keys s.slots.items c.self.invariant.same in
    let seen : length (places_of s.paths.keys s.slots.items) ≡ length c.args.self.now.places = ap (λ (x : Stored). length x.places) c.self.view_is in
    let within = c.requires.place in
    omega (arith, s.slots.ok.0)

pub seen_in-requires : goal.seen_in-requires
seen_in-requires g c =
    let s = c.self.inside in
    let slot = c.index.result.now in
    let count = length-places_of s.paths.keys s.slots.items c.self.invariant.same in
    let seen : length (places_of s.paths.keys s.slots.items) ≡ length c.args.self.now.places = ap (λ (x : Stored). length x.places) c.self.view_is in
    let within = c.requires.place in
    let lt : c.args.place < length s.slots.items = omega arith in
    let there : slice_get s.slots.items c.args.place ≡ Some slot = slice_get-get_or s.slots.items c.args.place slot lt ∙ ap Some (sym c.index.ensures) in
    subst IsOrdered (sym c.deref.ensures.value) (slot_ordered s.version s.paths.keys s.slots.items c.args.place slot c.self.invariant.same c.self.invariant.places there)

pub returns-clause-row : goal.returns-clause-row
returns-clause-row g c =
    let s = c.self.inside in
    let slot = c.index.result.now in
    let count = length-places_of s.paths.keys s.slots.items c.self.invariant.same in
    let seen : length (places_of s.paths.keys s.slots.items) ≡ length c.args.self.now.places = ap (λ (x : Stored). length x.places) c.self.view_is in
    let within = c.requires.place in
    let lt : c.args.place < length s.slots.items = omega arith in
    let there : slice_get s.slots.items c.args.place ≡ Some slot = slice_get-get_or s.slots.items c.args.place slot lt ∙ ap Some (sym c.index.ensures) in
    rw (← c.self.view_is) (c.seen_in.ensures ∙ ap (λ xs. seen_in xs c.args.version) c.deref.ensures.value
    ∙ slot_row s.version c.args.version s.paths.keys s.slots.items c.args.place slot c.self.invariant.same c.self.invariant.places there)
