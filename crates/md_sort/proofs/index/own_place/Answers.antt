use Rattle.std.proofs.Common.{rules, ◌≡◌}
use Rattle.std.specs.Prelude.{Some, slice_get}
use Rattle.slab.specs.Slab.{get}
use Rattle.md_sort.specs.Slots.{rows_at}
use Rattle.md_sort.proofs.Slots.{own_in, own_by_path}
use Rattle.md_sort.proofs.index.own_place.Goals as goal

pub place_from-requires-clause-by_path : goal.place_from-requires-clause-by_path
place_from-requires-clause-by_path c =
    let there : slice_get (rows_at (get c.args.rows.now) c.args.paths.now.items) c.args.place ≡ Some c.in-Some.row.now = search rules in
    own_by_path c.args.keys.now (get c.args.rows.now) c.args.paths.now.items c.args.places.now.items c.requires.indexed _ c.args.place there

pub returns-clause-row : goal.returns-clause-row
returns-clause-row c =
    let there : slice_get (rows_at (get c.args.rows.now) c.args.paths.now.items) c.args.place ≡ Some c.in-Some.row.now = search rules in
    (own_in c.args.keys.now (get c.args.rows.now) c.args.paths.now.items c.args.places.now.items c.requires.indexed c.args.place c.place_from.result c.in-Some.row.now there c.place_from.ensures.value).0

pub returns-clause-bound : goal.returns-clause-bound
returns-clause-bound c =
    let there : slice_get (rows_at (get c.args.rows.now) c.args.paths.now.items) c.args.place ≡ Some c.in-Some.row.now = search rules in
    (own_in c.args.keys.now (get c.args.rows.now) c.args.paths.now.items c.args.places.now.items c.requires.indexed c.args.place c.place_from.result c.in-Some.row.now there c.place_from.ensures.value).1
