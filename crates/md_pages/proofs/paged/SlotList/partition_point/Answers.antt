use Rattle.std.proofs.Common.{rules, ◌≡◌, ◌+◌, ◌-◌, ◌/◌, true, false, sym, subst, arith}
use Rattle.std.specs.Prelude.{Some, None, slice_get}
use Rattle.md_pages.proofs.Pages.{Narrowed, passed, failed, met, not_there}
use Rattle.md_pages.proofs.paged.SlotList.partition_point.Goals as goal

pub loop-low-preserved-then-passes : goal.loop-low-preserved-then-passes
loop-low-preserved-then-passes g c =
    let slots = c.args.self.now.items in
    let low = c.loop-low.low in
    let high = c.loop-low.high in
    let middle = low + (high - low) / 2 in
    let there : slice_get slots middle ≡ Some c.in-Some.slot = search rules in (
      omega arith,
      c.loop-low.invariant.1,
      (λ test known parted. passed test slots parted low high middle c.in-Some.slot (c.loop-low.invariant.2 test known parted) there (sym (known c.in-Some.slot true (search rules) (search rules)))),
    )

pub loop-low-preserved-in_default : goal.loop-low-preserved-in_default
loop-low-preserved-in_default g c =
    let slots = c.args.self.now.items in
    let low = c.loop-low.low in
    let high = c.loop-low.high in
    let middle = low + (high - low) / 2 in
    let there : slice_get slots middle ≡ Some c.in-Some.slot = search rules in (
      omega arith,
      omega arith,
      (λ test known parted. failed test slots parted low high middle c.in-Some.slot (c.loop-low.invariant.2 test known parted) there (sym (known c.in-Some.slot false (search rules) (search rules)))),
    )

pub loop-low-preserved : goal.loop-low-preserved
loop-low-preserved g c =
    let slots = c.args.self.now.items in
    let middle = c.loop-low.low + (c.loop-low.high - c.loop-low.low) / 2 in
    let none : slice_get slots middle ≡ None = search rules in
    absurd (not_there slots middle (omega arith) none)

pub returns-clause-value : goal.returns-clause-value
returns-clause-value g c =
    let same : c.loop-low.high ≡ c.loop-low.low = search rules in
    λ test known parted. met test c.args.self.now.items parted c.loop-low.low (search rules) (subst (Narrowed test c.args.self.now.items c.loop-low.low) same (c.loop-low.invariant.2 test known parted))
