use Rattle.std.proofs.Common.{◌-◌, ◌++◌, ◌∙◌, sym, ap, refl, drop, length, append-nil, get_or}
use Rattle.imp_csv.specs.Tables.{fields_at}
use Rattle.imp_csv.proofs.Cuts.{later_step, no_rows}
use Rattle.imp_csv.proofs.records.push_later.Goals as goal

pub loop-length-preserved : goal.loop-length-preserved
loop-length-preserved c =
    let F = fields_at c.args.name.now c.args.header.now in
    let inv = c.loop-length.invariant in
    let i = c.loop-length.length-index in
    later_step F c.args.lengths.now i (get_or c.args.lengths.now i 0) c.len-count.result c.loop-length.left c.args.all.now c.loop-length.fields c.push_fields.new.fields _ c.loop-length-test.true refl inv.0 inv.1 c.len-count.ensures
    (c.in_ok-push_fields.ensures ∙ ap (λ row. c.loop-length.fields ++ F row) c.of.ensures) inv.2

pub returns : goal.returns
returns c =
    let F = fields_at c.args.name.now c.args.header.now in
    let rest = no_rows F c.args.lengths.now c.loop-length.length-index (drop (length c.args.all.now - c.loop-length.left) c.args.all.now) c.loop-length-test.false in
    sym (ap (λ l. c.loop-length.fields ++ l) rest ∙ append-nil c.loop-length.fields) ∙ c.loop-length.invariant.2
