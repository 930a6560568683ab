use Rattle.std.proofs.Common.{rules}
use Rattle.slab.specs.Slab.{get}
use Rattle.md_sort.specs.Slots.{rows_at}
use Rattle.md_sort.proofs.Slots.{has_permuted}
use Rattle.md_sort.proofs.index.place_of.Goals as goal

pub returns-in-Err : goal.returns-in-Err
returns-in-Err c =
    let same = has_permuted c.args.path.now (rows_at (get c.args.rows.now) c.args.paths.now.items) (rows_at (get c.args.rows.now) c.args.places.now.items) c.requires.same in
    search rules
