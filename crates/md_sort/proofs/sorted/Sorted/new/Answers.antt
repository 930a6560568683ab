use Rattle.std.proofs.Common.{[], sym, subst}
use Rattle.slab.specs.Slab.{get}
use Rattle.md_sort.specs.Slots.{AreIndexed}
use Rattle.md_sort.proofs.Slots.{none_indexed}
use Rattle.md_sort.proofs.sorted.Sorted.new.Goals as goal

pub invariant_of-result : goal.invariant_of-result
invariant_of-result c =
    subst (λ slots. AreIndexed c.args.order (get c.new.result) slots c.new-3.result.items) (sym c.new-2.ensures)
    (subst (λ slots. AreIndexed c.args.order (get c.new.result) [] slots) (sym c.new-3.ensures) (none_indexed c.args.order (get c.new.result)))
