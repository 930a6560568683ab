use Rattle.std.proofs.Common.{◌∙◌, ap}
use Rattle.md_match.proofs.Times.{known, search_first}
use Rattle.md_match.proofs.forms.first_out.Goals as goal

pub returns-in-Out : goal.returns-in-Out
returns-in-Out c =
    let local = c.args.local.now in
    ap (known local.moment local.offset) c.in-Out.ensures ∙ search_first local.moment local.offset c.args.expr.now

pub returns-in-InRange : goal.returns-in-InRange
returns-in-InRange c =
    let local = c.args.local.now in
    ap (known local.moment local.offset) c.in-InRange.ensures ∙ search_first local.moment local.offset c.args.expr.now
