use Rattle.std.specs.Prelude.{◌≡◌, ◌≤◌, ◌++◌, List, length}
use Rattle.std.specs.Vec.Iter.{into_iter_items}
use Rattle.md_world.specs.declared.Row.{Row}
use Rattle.md_world.specs.Tables.{IsTable}
use Rattle.md_world.specs.Holding.{with_rows}
use Rattle.md_world.specs.Orders.{IsInOrder}
use Rattle.md_notice.proofs.apply.set_all.Given as goal

-- the rows so far are set, and there is room for those that are left
abbrev pub invariant-loop-row : goal.invariant-loop-row
invariant-loop-row l =
    record {
      order : l.sorted.order ≡ l.fn.sorted.order;
      prefix : l.yielded ++ into_iter_items l.row-iterator ≡ l.fn.rows.items;
      room : length (into_iter_items l.row-iterator) ≤ l.sorted.spare;
      rows : (table : List Row) → IsTable table → IsInOrder l.fn.sorted.order table l.fn.sorted.rows → IsInOrder l.fn.sorted.order (with_rows table l.yielded) l.sorted.rows;
    }
