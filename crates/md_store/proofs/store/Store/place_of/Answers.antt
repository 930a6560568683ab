use Rattle.std.proofs.Common.{sym, ◌∙◌, arith}
use Rattle.md_store.proofs.Placing.{number_places, slot_within}
use Rattle.md_store.proofs.store.Store.place_of.Goals as goal

pub returns-in-Some : goal.returns-in-Some
returns-in-Some c =
    let s = c.self.inside in
    rw (← c.self.view_is) (sym c.in-Some.is ∙ c.number_of.ensures ∙ number_places c.args.path.now s.paths.keys s.slots.items c.self.invariant.same)

pub returns-in-None : goal.returns-in-None
returns-in-None c =
    let s = c.self.inside in
    rw (← c.self.view_is) (sym c.in-None.is ∙ c.number_of.ensures ∙ number_places c.args.path.now s.paths.keys s.slots.items c.self.invariant.same)

pub overflow_cast-result : goal.overflow_cast-result
overflow_cast-result c =
    let s = c.self.inside in
    let same = c.self.invariant.same in
    let at = sym (number_places c.args.path.now s.paths.keys s.slots.items same) ∙ sym c.number_of.ensures ∙ c.in-Some.is in
    omega (arith, c.self.invariant.stamped, slot_within s.paths.keys s.slots.items c.args.path.now c.in-Some.place same at)
