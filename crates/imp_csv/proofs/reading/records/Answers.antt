use Rattle.std.proofs.Common.{rules, ◌-◌, ◌∙◌, sym, ap₂}
use Rattle.imp_csv.proofs.Readings.{begun, added, shrinks, all_read}
use Rattle.imp_csv.proofs.reading.records.Goals as goal

pub loop-rest-init : goal.loop-rest-init
loop-rest-init c =
    let start = begun _ _ c.args.text.now c.without_mark.result.now c.without_line_ends-rest.result.now c.new-lengths.ensures.items c.new-fields.ensures c.without_mark.ensures c.without_line_ends-rest.ensures in
    (start.0, start.1, c.without_line_ends-rest.ensures.1, search rules)

pub loop-rest-preserved : goal.loop-rest-preserved
loop-rest-preserved c =
    let inv = c.loop-rest.invariant in
    let skips = c.without_line_ends-rest-in-loop-rest.ensures in
    let step = added _ _ _ _ _ c.loop-rest.rest.now _ _ _ inv.0 inv.1 inv.2 (sym c.is_empty.ensures ∙ c.loop-rest-test.true) c.in_ok-push_record.ensures skips
    (ap₂ ◌-◌ c.len.ensures c.len-before.ensures) c.in_ok-push.ensures.items in
    (step.0, step.1, skips.1, search rules)

pub loop-rest-smaller : goal.loop-rest-smaller
loop-rest-smaller c =
    let adds = c.in_ok-push_record.ensures in
    shrinks _ _ _ (sym c.is_empty.ensures ∙ c.loop-rest-test.true) adds.3 adds.4 c.without_line_ends-rest-in-loop-rest.ensures

pub returns : goal.returns
returns c =
    let inv = c.loop-rest.invariant in
    c.of.ensures ∙ all_read _ _ c.loop-rest.rest.now _ inv.1 (sym c.is_empty.ensures ∙ c.loop-rest-test.false)
