use Rattle.std.proofs.Common.{◌≡◌, ◌-◌, ◌++◌, ◌==◌, ◌∙◌, sym, ap, ap₂, arith, take}
use Rattle.std.specs.List.{position}
use Rattle.csv.specs.declared.parser.State.TheVariants as st
use Rattle.imp_csv.specs.Records.{records_at}
use Rattle.imp_csv.proofs.Texts.{quote_found, quote_none}
use Rattle.imp_csv.proofs.field.split_quoted.Goals as goal

pub range-requires-clause-end_boundary : goal.range-requires-clause-end_boundary
range-requires-clause-end_boundary c = (quote_found c.args.text.now c.in-Some.place c.utf8.text (ap (position (λ byte. byte == 34)) (sym c.as_bytes.ensures.value) ∙ sym c.quote_place.ensures ∙ c.in-Some.is)).0

pub range_from-requires : goal.range_from-requires
range_from-requires c =
    λ some. (quote_found c.args.text.now c.in-Some.place c.utf8.text (ap (position (λ byte. byte == 34)) (sym c.as_bytes.ensures.value) ∙ sym c.quote_place.ensures ∙ c.in-Some.is)).1

pub returns-in-Some-clause-reads : goal.returns-in-Some-clause-reads
returns-in-Some-clause-reads c =
    let found = quote_found c.args.text.now c.in-Some.place c.utf8.text (ap (position (λ byte. byte == 34)) (sym c.as_bytes.ensures.value) ∙ sym c.quote_place.ensures ∙ c.in-Some.is) in
    let width : c.in-Some.place - 0 ≡ c.in-Some.place = omega arith in
    λ row field. found.3 row field ∙ ap₂ (λ front rest. records_at st.AfterQuote row (field ++ front) rest) (ap (λ n. take n c.args.text.now) (sym width) ∙ sym c.range.ensures.value) (sym c.range_from.ensures.value)

pub returns-in-None-clause-reads : goal.returns-in-None-clause-reads
returns-in-None-clause-reads c =
    λ row field. quote_none c.args.text.now row field (ap (position (λ byte. byte == 34)) (sym c.as_bytes.ensures.value) ∙ sym c.quote_place.ensures ∙ c.in-None.is)
