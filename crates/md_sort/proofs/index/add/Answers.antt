use Rattle.std.proofs.Common.{rules, ◌≡◌, sym, subst}
use Rattle.std.specs.List.{prefix_len}
use Rattle.slab.specs.Slab.{get}
use Rattle.md_world.specs.Orders.{row_before, IsOrdered, with_placed}
use Rattle.md_sort.specs.Slots.{row_or_empty, rows_at, AllHeld}
use Rattle.md_sort.proofs.Slots.{added}
use Rattle.md_sort.proofs.index.add.Goals as goal

pub returns-clause-held : goal.returns-clause-held
returns-clause-held c =
    let keys = c.args.keys.now in
    let find = get c.args.rows.now in
    let slots = c.args.places.now.items in
    let slot = c.args.slot in
    let is : c.place_in-place.result ≡ prefix_len (λ other. row_before keys other (row_or_empty (find slot))) (rows_at find slots) = search rules in
    let more = added keys find slots slot c.place_in-place.result c.requires.held c.requires.ordered c.requires.slot c.requires.absent c.place_in-place.ensures.bound is in
    subst (AllHeld find) (sym c.insert.ensures.items) more.0

pub returns-clause-ordered : goal.returns-clause-ordered
returns-clause-ordered c =
    let keys = c.args.keys.now in
    let find = get c.args.rows.now in
    let slots = c.args.places.now.items in
    let slot = c.args.slot in
    let is : c.place_in-place.result ≡ prefix_len (λ other. row_before keys other (row_or_empty (find slot))) (rows_at find slots) = search rules in
    let more = added keys find slots slot c.place_in-place.result c.requires.held c.requires.ordered c.requires.slot c.requires.absent c.place_in-place.ensures.bound is in
    subst (λ all. IsOrdered keys (rows_at find all)) (sym c.insert.ensures.items) more.1

pub returns-clause-rows : goal.returns-clause-rows
returns-clause-rows c =
    let keys = c.args.keys.now in
    let find = get c.args.rows.now in
    let slots = c.args.places.now.items in
    let slot = c.args.slot in
    let is : c.place_in-place.result ≡ prefix_len (λ other. row_before keys other (row_or_empty (find slot))) (rows_at find slots) = search rules in
    let more = added keys find slots slot c.place_in-place.result c.requires.held c.requires.ordered c.requires.slot c.requires.absent c.place_in-place.ensures.bound is in
    subst (λ all. rows_at find all ≡ with_placed keys (row_or_empty (find slot)) (rows_at find slots)) (sym c.insert.ensures.items) more.2
