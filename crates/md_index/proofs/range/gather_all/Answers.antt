use Rattle.std.proofs.Common.{true, false, subst}
use Rattle.std.specs.Prelude.{Some}
use Rattle.std.proofs.lemmas.Result.{IfOk-weaker}
use Rattle.md_value.specs.declared.value.Value.TheVariants.{Flag}
use Rattle.md_index.specs.Indexed.{counted_between, Adds}
use Rattle.md_index.specs.Spans.{within}
use Rattle.md_index.proofs.Adding.{adds_then, adds_first}
use Rattle.md_index.proofs.Spans.{parted}
use Rattle.md_index.proofs.range.gather_all.Goals as goal

pub returns-then-not-branch-clause-adds : goal.returns-then-not-branch-clause-adds
returns-then-not-branch-clause-adds c =
    let probe = c.args.probe.now in
    let entries = c.args.values.now.entries in
    adds_first c.args.out.now.items c.gather_flags.new.out.items c.in_ok-gather_flags.field-0
    (counted_between probe (within (Some (Flag false)) (Some (Flag true)) entries)) (counted_between probe (within c.in_ok-low.low c.in_ok-high.high entries)) (counted_between probe entries)
    (parted probe c.in_ok-low.low c.in_ok-high.high c.in_ok-low.ensures c.in_ok-high.ensures entries) c.in_ok-gather_flags.ensures.adds

pub returns-clause-adds : goal.returns-clause-adds
returns-clause-adds c =
    let probe = c.args.probe.now in
    let entries = c.args.values.now.entries in
    let flags = counted_between probe (within (Some (Flag false)) (Some (Flag true)) entries) in
    let all : Adds c.args.out.now.items c.gather_flags.new.out.items true flags =
    subst (λ whole. Adds c.args.out.now.items c.gather_flags.new.out.items whole flags) c.if-not-branch.false c.in_ok-gather_flags.ensures.adds in
    IfOk-weaker c.gather.result _ _
    (λ whole adds. adds_then c.args.out.now.items c.gather_flags.new.out.items c.gather.new.out.items whole flags (counted_between probe (within c.in_ok-low.low c.in_ok-high.high entries)) (counted_between probe entries)
    (parted probe c.in_ok-low.low c.in_ok-high.high c.in_ok-low.ensures c.in_ok-high.ensures entries) all adds)
    c.gather.ensures.adds
