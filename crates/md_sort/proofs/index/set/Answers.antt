use Rattle.std.proofs.Common.{◌≡◌, false, sym, subst}
use Rattle.slab.specs.Slab.{get}
use Rattle.md_world.specs.Tables.{has_path, with_row}
use Rattle.md_world.specs.Orders.{IsInOrder, with_placed}
use Rattle.md_sort.specs.Slots.{rows_at}
use Rattle.md_sort.proofs.Placed.{none_left, set_kept}
use Rattle.md_sort.proofs.index.set.Goals as goal

pub put_in-requires-clause-absent : goal.put_in-requires-clause-absent
put_in-requires-clause-absent c =
    subst (λ rows. has_path rows c.args.row.path ≡ false) (sym c.clear_place-by_path.ensures.rows) (none_left c.args.row.path (rows_at (get c.args.rows.now) c.args.places.now.items))

pub returns-clause-rows : goal.returns-clause-rows
returns-clause-rows c =
    let keys = c.args.keys.now in
    let rows = rows_at (get c.args.rows.now) c.args.places.now.items in
    let set = set_kept keys c.args.row rows c.requires.indexed.kept in
    subst (λ after. IsInOrder keys (with_row rows c.args.row) after) (sym c.put_in.ensures.rows)
    (subst (λ others. IsInOrder keys (with_row rows c.args.row) (with_placed keys c.args.row others)) (sym c.clear_place-by_path.ensures.rows) set.1)
