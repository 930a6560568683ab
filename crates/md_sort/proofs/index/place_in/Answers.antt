use Rattle.std.proofs.Common.{rules, ◌∙◌}
use Rattle.slab.specs.Slab.{get}
use Rattle.md_world.specs.declared.Row.{Row}
use Rattle.md_world.specs.Orders.{row_before}
use Rattle.md_sort.specs.Slots.{rows_at, passes}
use Rattle.md_sort.proofs.Placed.{parted}
use Rattle.md_sort.proofs.Slots.{parted_slots, prefix_slots}
use Rattle.md_sort.proofs.index.place_in.Goals as goal

pub returns-clause-value : goal.returns-clause-value
returns-clause-value c =
    let find = get c.args.rows.now in
    let slots = c.args.slots.now.items in
    let test = λ (other : Row). row_before c.args.keys.now other c.args.row.now in
    let rows_parted = parted_slots find test slots c.requires.held (parted c.args.keys.now c.args.row.now (rows_at find slots) c.requires.ordered) in
    c.partition_point.ensures.value (λ slot. passes test (find slot)) (λ slot passed fits known. search rules) rows_parted ∙ prefix_slots find test slots c.requires.held
