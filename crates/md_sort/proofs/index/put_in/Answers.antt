use Rattle.std.proofs.Common.{rules, ◌≡◌, insert, sym, subst, ◌∙◌}
use Rattle.std.specs.List.{prefix_len}
use Rattle.slab.specs.Slab.{get}
use Rattle.md_world.specs.Orders.{row_before, with_placed}
use Rattle.md_sort.specs.Slots.{rows_at, AreIndexed}
use Rattle.md_sort.proofs.Placed.{before_path}
use Rattle.md_sort.proofs.Slots.{in_indexed, placed_by_path}
use Rattle.md_sort.proofs.index.put_in.Goals as goal

pub place_from-place-requires-clause-by_path : goal.place_from-place-requires-clause-by_path
place_from-place-requires-clause-by_path c =
    placed_by_path c.args.keys.now (get c.args.rows.now) c.args.paths.now.items c.args.places.now.items c.requires.indexed _ c.args.by_path c.requires.place

pub returns-clause-rows : goal.returns-clause-rows
returns-clause-rows c =
    let keys = c.args.keys.now in
    let find = get c.args.rows.now in
    let after = get c.insert_reserved-slot.new.self in
    let slot = c.insert_reserved-slot.result in
    let paths = c.args.paths.now.items in
    let places = c.args.places.now.items in
    let path_is = c.requires.place ∙ before_path c.args.row (rows_at find paths) in
    let place_is : c.place_from-place.result ≡ prefix_len (λ other. row_before keys other c.args.row) (rows_at find places) = search rules in
    let updates = c.insert_reserved-slot.ensures.updates in
    let put = in_indexed keys find after paths places c.requires.indexed slot updates.others c.args.row c.insert_reserved-slot.ensures.was_vacant updates.changed c.requires.absent c.args.by_path c.place_from-place.result c.requires.bound c.place_from-place.ensures.bound path_is place_is in
    subst (λ slots. rows_at after slots ≡ with_placed keys c.args.row (rows_at find places)) (sym c.insert-2.ensures.items) put.1

pub returns-clause-indexed : goal.returns-clause-indexed
returns-clause-indexed c =
    let keys = c.args.keys.now in
    let find = get c.args.rows.now in
    let after = get c.insert_reserved-slot.new.self in
    let slot = c.insert_reserved-slot.result in
    let paths = c.args.paths.now.items in
    let places = c.args.places.now.items in
    let path_is = c.requires.place ∙ before_path c.args.row (rows_at find paths) in
    let place_is : c.place_from-place.result ≡ prefix_len (λ other. row_before keys other c.args.row) (rows_at find places) = search rules in
    let updates = c.insert_reserved-slot.ensures.updates in
    let put = in_indexed keys find after paths places c.requires.indexed slot updates.others c.args.row c.insert_reserved-slot.ensures.was_vacant updates.changed c.requires.absent c.args.by_path c.place_from-place.result c.requires.bound c.place_from-place.ensures.bound path_is place_is in
    subst (λ slots. AreIndexed keys after slots c.insert-2.new.self.items) (sym c.insert.ensures.items) (subst (λ slots. AreIndexed keys after (insert paths c.args.by_path slot) slots) (sym c.insert-2.ensures.items) put.0)
