use Rattle.std.proofs.Common.{rules, ◌++◌, ◌∷◌, [], ◌∙◌, ap, arith, length, append_assoc}
use Rattle.csv.specs.declared.parser.State.TheVariants as st
use Rattle.imp_csv.specs.Records.{records_at}
use Rattle.imp_csv.proofs.Texts.{next_field, record_end, line_ended}
use Rattle.imp_csv.proofs.reading.push_record.Goals as goal

pub loop-next-preserved : goal.loop-next-preserved
loop-next-preserved c =
    let inv = c.loop-next.invariant in
    let row = inv.0 in
    let field = inv.1 in
    let more = c.in_ok-rest-2.ensures in (
      row ++ field ∷ [],
      more.0,
      more.1 ∙ ap (λ fields. fields ++ more.0 ∷ []) inv.2 ∙ append_assoc c.args.fields.now (row ++ field ∷ []) (more.0 ∷ []),
      inv.3 ∙ ap (records_at st.InField row field) c.in-Some.ensures ∙ next_field c.in-Some.next.now row field ∙ more.2 (row ++ field ∷ []),
      more.3,
      omega (arith, inv.5, ap length c.in-Some.ensures, more.4),
      search rules,
    )

pub returns : goal.returns
returns c =
    let inv = c.loop-next.invariant in
    let ended = line_ended c.loop-next.rest.now inv.4 c.in_default.ensures in (
      inv.0 ++ inv.1 ∷ [],
      inv.2,
      inv.3 ∙ record_end c.loop-next.rest.now inv.0 inv.1 ended,
      ended,
      inv.5,
    )
