use Rattle.std.proofs.Common.{◌≡◌, suc, ◌∷◌, [], ◌++◌, length, sym, ◌∙◌, ap, subst, append_assoc, arith}
use Rattle.std.specs.Vec.Iter.{into_iter_items}
use Rattle.md_world.specs.Tables.{with_row}
use Rattle.md_world.specs.Orders.{IsInOrder}
use Rattle.md_notice.proofs.Brought.{one_more}
use Rattle.md_notice.proofs.apply.set_all.Goals as goal

pub loop-row-preserved : goal.loop-row-preserved
loop-row-preserved c =
    let before = c.loop-row.invariant in
    let step : into_iter_items c.loop-row.row-iterator ≡ c.in-Some.row ∷ into_iter_items c.next.new.self = c.in-Some.ensures.steps.0 in
    let long : length (into_iter_items c.loop-row.row-iterator) ≡ suc (length (into_iter_items c.next.new.self)) = ap length step in
    let room = before.room in
    let less = c.insert.ensures.spare in
    record {
      order = c.insert.ensures.order ∙ before.order;
      prefix = append_assoc c.loop-row.yielded (c.in-Some.row ∷ []) (into_iter_items c.next.new.self) ∙ ap (λ rows. c.loop-row.yielded ++ rows) (sym step) ∙ before.prefix;
      room = omega arith;
      rows = λ table h shown.
          one_more c.args.sorted.now.order table c.loop-row.yielded c.in-Some.row c.loop-row.sorted.rows c.insert.new.self.rows h (before.rows table h shown)
          (subst (λ order. IsInOrder order (with_row c.loop-row.sorted.rows c.in-Some.row) c.insert.new.self.rows) before.order c.insert.ensures.rows);
    }
