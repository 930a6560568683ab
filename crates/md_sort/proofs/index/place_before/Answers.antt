use Rattle.std.proofs.Common.{rules, ◌∙◌}
use Rattle.slab.specs.Slab.{get}
use Rattle.md_value.specs.Values.{is_before}
use Rattle.md_world.specs.declared.Row.{Row}
use Rattle.md_sort.specs.Slots.{rows_at, passes}
use Rattle.md_sort.proofs.Placed.{parted_by_path}
use Rattle.md_sort.proofs.Slots.{parted_slots, prefix_slots}
use Rattle.md_sort.proofs.index.place_before.Goals as goal

pub returns-clause-value : goal.returns-clause-value
returns-clause-value c =
    let find = get c.args.rows.now in
    let slots = c.args.slots.now.items in
    let test = λ (row : Row). is_before row.path c.args.path.now in
    let parted = parted_slots find test slots c.requires.held (parted_by_path c.args.path.now (rows_at find slots) c.requires.ordered) in
    c.partition_point.ensures.value (λ slot. passes test (find slot)) (λ slot passed fits known. search rules) parted ∙ prefix_slots find test slots c.requires.held
