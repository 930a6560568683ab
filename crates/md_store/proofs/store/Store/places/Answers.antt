use Rattle.md_store.proofs.store.Store.places.Goals as goal

pub places_in_order-requires-clause-places : goal.places_in_order-requires-clause-places
places_in_order-requires-clause-places c = (c.self.inside.version, rw c.deref.ensures.value c.self.invariant.places)
