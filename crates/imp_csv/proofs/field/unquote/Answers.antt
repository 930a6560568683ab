use Rattle.std.proofs.Common.{rules, ◌≡◌, ◌++◌, ◌∷◌, [], ◌∙◌, sym, ap, arith, length, string_bytes}
use Rattle.csv.specs.declared.parser.State.TheVariants as st
use Rattle.imp_csv.specs.Records.{records_at}
use Rattle.imp_csv.proofs.Texts.{doubled_quote}
use Rattle.imp_csv.proofs.field.unquote.Goals as goal

pub loop-next-preserved : goal.loop-next-preserved
loop-next-preserved c =
    let inv = c.loop-next.invariant in
    let next = c.in-Some.next.now in
    let field = string_bytes c.loop-next.field in
    let pushed : string_bytes c.push.new.self ≡ field ++ 34 ∷ [] = search rules in
    let more = c.in_ok-rest-2.ensures in
    let read = inv.0 in (
      (
        λ row. read.0 row ∙ ap (records_at st.AfterQuote row field) c.in-Some.ensures ∙ doubled_quote next row field ∙ ap (λ f. records_at st.InQuoted row f next) (sym pushed) ∙ more.0 row,
        omega (arith, read.1, ap length c.in-Some.ensures, more.1),
      ),
      search rules,
    )
