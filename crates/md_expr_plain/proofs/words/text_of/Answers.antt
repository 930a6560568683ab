use Rattle.std.proofs.Common.{rules, ◌<◌, length, arith}
use Rattle.std.proofs.lemmas.Str.{chars-nil}
use Rattle.md_expr_plain.proofs.Texts.{turned}
use Rattle.md_expr_plain.proofs.words.text_of.Goals as goal

pub loop-c-init : goal.loop-c-init
loop-c-init c = search (rules, chars-nil)

pub loop-c-preserved : goal.loop-c-preserved
loop-c-preserved c =
    let h : c.loop-c.c-index < length c.args.all.now = omega arith in
    turned c.args.all.now c.loop-c.c-index c.c-item.result _ _ (search rules) c.loop-c.invariant h c.c-item.is
