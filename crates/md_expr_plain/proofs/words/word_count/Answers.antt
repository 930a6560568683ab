use Rattle.std.proofs.Common.{rules}
use Rattle.std.proofs.lemmas.Iterator.Consumers.{YieldsList-at, YieldsList-from_filter, count_from_yields_List}
use Rattle.std.proofs.lemmas.Iterator.Splits.{YieldsList-from_slice_split}
use Rattle.md_expr_tree.specs.Classes.{is_blank}
use Rattle.md_expr_plain.specs.Plain.{is_word}
use Rattle.md_expr_plain.proofs.words.word_count.Goals as goal

pub returns : goal.returns
returns c =
    count_from_yields_List c.filter.result _ c.count.ensures.ran (YieldsList-from_filter _ is_word (YieldsList-at c.filter.ensures.source (YieldsList-from_slice_split _ is_blank c.args.text.now c.split.ensures.rest c.split.ensures.done c.split.ensures.closure (λ x b q k. search rules))) c.filter.ensures.closure (λ x b q k. search rules))
