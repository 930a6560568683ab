use Rattle.std.proofs.Common.{◌≡◌, ◌==◌, false, get_or, sym, ap, ◌∙◌}
use Rattle.imp_csv.proofs.Numbers.{number_parsed}
use Rattle.imp_csv.proofs.values.whole_number.Goals as goal

pub returns : goal.returns
returns c =
    let plus : (get_or c.args.text.now 0 0 == 43) ≡ false = ap (λ text. get_or text 0 0 == 43) (sym c.as_bytes.ensures.value) ∙ sym c.if-begins_with_plus.ensures in
    c.ok.ensures.value ∙ number_parsed c.args.text.now c.parse.result c.parse.ensures.value.0 plus
