use Rattle.std.proofs.Common.{get_or, ap, arith, length}
use Rattle.std.proofs.lemmas.Str.{IsCharBoundary-after_ascii}
use Rattle.imp_csv.proofs.field.after_byte.Goals as goal

pub range_from-requires : goal.range_from-requires
range_from-requires c =
    let same = c.as_bytes.ensures.value in
    λ some. IsCharBoundary-after_ascii c.args.text.now 0 c.utf8.text (omega (arith, c.in-len1-up.len_at_least, ap length same)) (omega (arith, c.requires, c.if-first-byte.true, ap (λ text. get_or text 0 0) same))
