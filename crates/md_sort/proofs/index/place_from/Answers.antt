use Rattle.std.proofs.Common.{rules, [], arith}
use Rattle.std.proofs.lemmas.List.{nil_from_length}
use Rattle.slab.specs.Slab.{get}
use Rattle.md_world.specs.Orders.{row_before}
use Rattle.md_sort.specs.Slots.{rows_at}
use Rattle.md_sort.proofs.Placed.{prefix_within}
use Rattle.md_sort.proofs.Slots.{length_rows}
use Rattle.md_sort.proofs.index.place_from.Goals as goal

pub returns-then-is_empty-clause-bound : goal.returns-then-is_empty-clause-bound
returns-then-is_empty-clause-bound c =
    let find = get c.args.rows.now in
    let places = c.args.places.now.items in
    let is = c.requires.by_path (nil_from_length c.args.keys.now (search rules)) in
    let within = prefix_within (λ other. row_before [] other c.args.row.now) (rows_at find places) in
    let long = length_rows find places in
    omega (arith, is, long)
