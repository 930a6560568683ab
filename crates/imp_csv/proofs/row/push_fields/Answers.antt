use Rattle.std.proofs.Common.{◌+◌, ◌<◌, ◌++◌, ◌∙◌, sym, ap, ap₂, arith, drop, length, append_assoc}
use Rattle.csv.specs.Records.{field_at}
use Rattle.imp_csv.specs.Tables.{fields_at}
use Rattle.imp_csv.specs.Records.{cell_of}
use Rattle.imp_csv.proofs.Cuts.{cells_more}
use Rattle.imp_csv.proofs.row.push_fields.Goals as goal

pub loop-place-preserved : goal.loop-place-preserved
loop-place-preserved c =
    let name = c.args.name.now in
    let header = c.args.header.now in
    let row = c.args.row.now in
    let place = c.loop-place.place in
    let fields = c.loop-place.fields in
    let rest = fields_at name (drop (place + 1) header) (drop (place + 1) row) in
    let lt : place < length header = omega (arith, c.loop-place-test.true, c.len-place-end.ensures) in
    ap (λ l. l ++ rest) (c.in_ok-push_cell.ensures ∙ ap₂ (λ column field. fields ++ cell_of name column field) c.get.ensures c.get-in-loop-place.ensures)
    ∙ append_assoc fields (cell_of name (field_at header place) (field_at row place)) rest ∙ ap (λ l. fields ++ l) (sym (cells_more name header row place lt)) ∙ c.loop-place.invariant
