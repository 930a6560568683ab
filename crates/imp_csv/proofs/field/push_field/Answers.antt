use Rattle.std.proofs.Common.{◌++◌, ◌∷◌, [], ◌∙◌, ap, arith, length, string_bytes}
use Rattle.csv.specs.declared.parser.State.TheVariants as st
use Rattle.imp_csv.specs.Records.{records_at}
use Rattle.imp_csv.proofs.Texts.{plain_start, quoted_start}
use Rattle.imp_csv.proofs.field.push_field.Goals as goal

pub returns-in-Some : goal.returns-in-Some
returns-in-Some c =
    let rest = c.in_ok-rest.ensures in (
      string_bytes c.make_quoted.new.field,
      c.in_ok-push.ensures ∙ ap (λ field. c.args.fields.now ++ field ∷ []) c.deref.ensures,
      λ row. ap (records_at st.StartField row []) c.in-Some.ensures ∙ quoted_start c.in-Some.quoted.now row ∙ rest.reads row,
      rest.ended,
      omega (arith, ap length c.in-Some.ensures, rest.shorter),
    )

pub returns : goal.returns
returns c =
    let plain = c.split_plain.ensures in (
      c.split_plain.result.0.now,
      c.in_ok-push-2.ensures,
      λ row. plain_start c.args.text.now row c.in_default.ensures ∙ plain.reads row [],
      plain.ended,
      plain.shorter,
    )
