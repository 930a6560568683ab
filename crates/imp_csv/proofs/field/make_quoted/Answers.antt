use Rattle.std.proofs.Common.{rules, ◌≡◌, ◌++◌, [], ◌∙◌, sym, ap, string_bytes}
use Rattle.csv.specs.declared.parser.State.TheVariants as st
use Rattle.imp_csv.specs.Records.{records_at}
use Rattle.imp_csv.proofs.Texts.{after_quotes}
use Rattle.imp_csv.proofs.field.make_quoted.Goals as goal

pub returns-clause-reads : goal.returns-clause-reads
returns-clause-reads c =
    let field = string_bytes c.unquote.new.field in
    let empty : [] ≡ string_bytes c.clear.new.self = sym c.clear.ensures.bytes in
    let pushed : field ++ c.split_plain.result.0.now ≡ string_bytes c.push_str.new.self = search rules in
    λ row. ap (λ f. records_at st.InQuoted row f c.args.text.now) empty ∙ c.in_ok-unquote.ensures.unquotes.0 row ∙ after_quotes c.in_ok-unquote.field-0.now row field c.in_ok-unquote.ensures.closed
    ∙ c.split_plain.ensures.reads row field ∙ ap (λ f. records_at st.InField row f c.split_plain.result.1.now) pushed
