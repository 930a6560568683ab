use Rattle.std.proofs.Common.{◌++◌, ◌∙◌, sym, ap, ap₂, subst}
use Rattle.std.specs.List.{position}
use Rattle.csv.specs.declared.parser.State.TheVariants as st
use Rattle.imp_csv.specs.Records.{records_at, ends_field, IsEnded}
use Rattle.imp_csv.proofs.Texts.{plain_found, plain_none}
use Rattle.imp_csv.proofs.field.split_plain.Goals as goal

pub split_at-requires : goal.split_at-requires
split_at-requires c = (plain_found c.args.text.now c.in-Some.place (ap (position ends_field) (sym c.as_bytes.ensures.value) ∙ sym c.plain_end.ensures ∙ c.in-Some.is)).0

pub returns-in-Some-clause-reads : goal.returns-in-Some-clause-reads
returns-in-Some-clause-reads c =
    let found = plain_found c.args.text.now c.in-Some.place (ap (position ends_field) (sym c.as_bytes.ensures.value) ∙ sym c.plain_end.ensures ∙ c.in-Some.is) in
    λ row field. found.2 row field ∙ ap₂ (λ front rest. records_at st.InField row (field ++ front) rest) (sym c.split_at.ensures.front) (sym c.split_at.ensures.back)

pub returns-in-Some-clause-ended : goal.returns-in-Some-clause-ended
returns-in-Some-clause-ended c =
    let found = plain_found c.args.text.now c.in-Some.place (ap (position ends_field) (sym c.as_bytes.ensures.value) ∙ sym c.plain_end.ensures ∙ c.in-Some.is) in
    subst IsEnded (sym c.split_at.ensures.back) found.1

pub returns-in-None-clause-reads : goal.returns-in-None-clause-reads
returns-in-None-clause-reads c =
    λ row field. plain_none c.args.text.now row field (ap (position ends_field) (sym c.as_bytes.ensures.value) ∙ sym c.plain_end.ensures ∙ c.in-None.is)
