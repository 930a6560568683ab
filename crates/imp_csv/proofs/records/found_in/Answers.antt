use Rattle.std.proofs.Common.{◌≡◌, ◌-◌, ◌++◌, ◌∙◌, sym, ap, arith, take, drop}
use Rattle.std.specs.List.{flat_map, list_any}
use Rattle.md_value.specs.Values.{is_same}
use Rattle.imp_csv.specs.Tables.{fields_at}
use Rattle.imp_csv.specs.Records.{cut}
use Rattle.imp_csv.proofs.Cuts.{none_found}
use Rattle.imp_csv.proofs.records.found_in.Goals as goal

pub returns-then-has_column : goal.returns-then-has_column
returns-then-has_column c =
    let all = c.args.all.now in
    let n = c.args.columns in
    let width : n - 0 ≡ n = omega arith in
    c.in_ok-push_later.ensures
    ∙ ap (λ l. l ++ flat_map (fields_at c.args.name.now c.of-header.result) (cut c.args.later.now (drop n all))) c.new-fields.ensures
    ∙ ap (λ header. flat_map (fields_at c.args.name.now header) (cut c.args.later.now (drop n all))) (c.of-header.ensures ∙ ap (λ w. take w all) width)

pub returns : goal.returns
returns c =
    let all = c.args.all.now in
    let n = c.args.columns in
    let width : n - 0 ≡ n = omega arith in
    let none = sym (c.if-has_column.ensures ∙ ap (list_any (is_same c.args.name.now)) (c.of-header.ensures ∙ ap (λ w. take w all) width)) in
    c.new-fields.ensures ∙ sym (none_found c.args.name.now (take n all) (cut c.args.later.now (drop n all)) none)
