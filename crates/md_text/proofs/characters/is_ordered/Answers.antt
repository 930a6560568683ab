use Rattle.std.proofs.Common.{sym, ◌∙◌}
use Rattle.md_text.proofs.Parts.{ordered_more, not_ordered, ordered_end, ordered_none, ordered_first}
use Rattle.md_text.proofs.characters.is_ordered.Goals as goal

pub returns-in_default : goal.returns-in_default
returns-in_default c = sym (ordered_none c.args.characters.now c.in_default.len_below)

pub loop-after-init : goal.loop-after-init
loop-after-init c = ordered_first c.args.characters.now c.first-item.result c.in-len1-up.len_at_least c.first-item.is

pub returns-then-is_reorderable : goal.returns-then-is_reorderable
returns-then-is_reorderable c =
    sym (not_ordered c.loop-after.before c.after-item.result _ c.loop-after.after-index c.loop-after-test.true c.after-item.is c.if-is_reorderable.ensures) ∙ c.loop-after.invariant

pub loop-after-preserved : goal.loop-after-preserved
loop-after-preserved c =
    ordered_more c.loop-after.before c.after-item.result _ c.loop-after.after-index c.loop-after-test.true c.after-item.is c.if-is_reorderable.ensures ∙ c.loop-after.invariant

pub returns : goal.returns
returns c = sym (ordered_end c.loop-after.before _ c.loop-after.after-index c.loop-after-test.false) ∙ c.loop-after.invariant
