use Rattle.std.proofs.Common.{sym, ◌∙◌, ap, nat_eq}
use Rattle.std.specs.List.{starts_with}
use Rattle.imp_kind.proofs.Marks.{mark, after_mark}
use Rattle.imp_kind.proofs.imports.without_mark.Goals as goal

pub range_from-requires : goal.range_from-requires
range_from-requires c = λ _. after_mark c.args.text.now c.utf8.text (ap (λ text. starts_with nat_eq text mark) (sym c.as_bytes.ensures.value) ∙ sym c.if-has_mark.ensures)
