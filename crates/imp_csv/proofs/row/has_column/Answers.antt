use Rattle.std.proofs.Common.{◌+◌, ◌<◌, ◌||◌, ◌∙◌, sym, ap, arith, drop, length}
use Rattle.std.specs.List.{list_any}
use Rattle.md_value.specs.Values.{is_same}
use Rattle.imp_csv.specs.Records.{is_titled}
use Rattle.imp_csv.proofs.Cuts.{titled_more}
use Rattle.imp_csv.proofs.row.has_column.Goals as goal

pub returns-then-is_titled : goal.returns-then-is_titled
returns-then-is_titled c =
    let name = c.args.name.now in
    let header = c.args.header.now in
    let place = c.loop-place.place in
    let lt : place < length header = omega (arith, c.loop-place-test.true, c.len-place-end.ensures) in
    sym (titled_more name header place lt ∙ ap (λ b. b || list_any (is_same name) (drop (place + 1) header)) (sym (c.if-is_titled.ensures ∙ ap (is_titled name) c.get.ensures))) ∙ c.loop-place.invariant

pub loop-place-preserved : goal.loop-place-preserved
loop-place-preserved c =
    let name = c.args.name.now in
    let header = c.args.header.now in
    let place = c.loop-place.place in
    let lt : place < length header = omega (arith, c.loop-place-test.true, c.len-place-end.ensures) in
    sym (titled_more name header place lt ∙ ap (λ b. b || list_any (is_same name) (drop (place + 1) header)) (sym (c.if-is_titled.ensures ∙ ap (is_titled name) c.get.ensures))) ∙ c.loop-place.invariant
