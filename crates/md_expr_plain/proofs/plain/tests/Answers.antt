use Rattle.std.proofs.Common.{rules, map, filter, ◌∙◌, ap}
use Rattle.std.proofs.lemmas.Iterator.Consumers.{YieldsList-end}
use Rattle.std.proofs.lemmas.Iterator.Splits.{YieldsList-from_slice_split}
use Rattle.md_expr_tree.specs.Classes.{is_blank}
use Rattle.md_expr_plain.specs.Plain.{is_word, word_test}
use Rattle.md_expr_plain.proofs.plain.tests.Goals as goal

pub returns : goal.returns
returns c =
    let all = YieldsList-end (YieldsList-from_slice_split _ is_blank c.args.text.now (cc) (cc) (cc) (λ x b q k. search rules)) c.loop-part.yielded _ c.loop-part.yielded_by _ _ c.in-None.is c.next.ensures.steps in
    c.loop-part.invariant ∙ ap (λ parts. map word_test (filter is_word parts)) all.0
