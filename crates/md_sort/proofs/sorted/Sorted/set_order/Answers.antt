use Rattle.std.proofs.Common.{rules, sym, ◌∙◌, subst}
use Rattle.std.proofs.lemmas.List.Sorted.{IsPermutation-sym, length_permutation}
use Rattle.slab.specs.Slab.{get}
use Rattle.md_world.specs.Orders.{IsOrdered, IsInOrder}
use Rattle.md_sort.specs.Kept.{Kept}
use Rattle.md_sort.specs.Slots.{rows_at}
use Rattle.md_sort.proofs.Placed.{differ_permuted}
use Rattle.md_sort.proofs.Slots.{length_rows, resorted}
use Rattle.md_sort.proofs.sorted.Sorted.set_order.Goals as goal

pub sorted-requires-clause-differ : goal.sorted-requires-clause-differ
sorted-requires-clause-differ c = differ_permuted _ _ (IsPermutation-sym _ _ c.self.invariant.same) c.self.invariant.kept.distinct

pub sorted-requires-clause-len : goal.sorted-requires-clause-len
sorted-requires-clause-len c =
    let find = get c.self.inside.rows in
    sym (length_rows find c.self.inside.paths.items) ∙ sym (length_permutation _ _ c.self.invariant.same) ∙ length_rows find c.self.inside.places.items

pub invariant_of-self : goal.invariant_of-self
invariant_of-self c =
    let find = get c.self.inside.rows in
    let moved = c.in_ok-self-inside.field-0 in
    let ordered = subst (λ order. IsOrdered order (rows_at find moved.items)) c.keys.ensures c.in_ok-self-inside.ensures.ordered in
    (resorted c.self.inside.order find c.self.inside.paths.items c.self.inside.places.items c.self.invariant c.args.order moved.items c.in_ok-self-inside.ensures.held c.in_ok-self-inside.ensures.permutation ordered).0

pub returns-clause-rows : goal.returns-clause-rows
returns-clause-rows c =
    let find = get c.self.inside.rows in
    let moved = c.in_ok-self-inside.field-0 in
    let ordered = subst (λ order. IsOrdered order (rows_at find moved.items)) c.keys.ensures c.in_ok-self-inside.ensures.ordered in
    let again = resorted c.self.inside.order find c.self.inside.paths.items c.self.inside.places.items c.self.invariant c.args.order moved.items c.in_ok-self-inside.ensures.held c.in_ok-self-inside.ensures.permutation ordered in
    subst (λ (k : Kept). IsInOrder c.args.order k.rows (rows_at find moved.items)) c.self.view_is again.1

pub returns-clause-spare : goal.returns-clause-spare
returns-clause-spare c =
    let find = get c.self.inside.rows in
    let moved = c.in_ok-self-inside.field-0 in
    let long = sym (length_rows find moved.items) ∙ length_permutation _ _ c.in_ok-self-inside.ensures.permutation ∙ length_permutation _ _ (IsPermutation-sym _ _ c.self.invariant.same) ∙ length_rows find c.self.inside.places.items in
    search (rules, long)
