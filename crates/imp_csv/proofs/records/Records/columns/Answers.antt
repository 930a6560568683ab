use Rattle.std.proofs.Common.{ap, ◌∙◌, arith, length, get_or}
use Rattle.imp_csv.specs.Tables.{header_of}
use Rattle.imp_csv.proofs.Cuts.{header_none, header_some}
use Rattle.imp_csv.proofs.records.Records.columns.Goals as goal

pub returns-in-empty-clause-value : goal.returns-in-empty-clause-value
returns-in-empty-clause-value c =
    header_none c.self.inside.lengths.items c.self.inside.fields (omega (arith, c.in-empty.len_below, ap length c.as_slice.ensures.value)) ∙ ap (λ rows. length (header_of rows)) c.self.view_is

pub returns-in-len1-up-clause-value : goal.returns-in-len1-up-clause-value
returns-in-len1-up-clause-value c =
    ap (λ ns. get_or ns 0 0) c.as_slice.ensures.value
    ∙ header_some c.self.inside.lengths.items c.self.inside.fields c.self.invariant (omega (arith, c.in-len1-up.len_at_least, ap length c.as_slice.ensures.value))
    ∙ ap (λ rows. length (header_of rows)) c.self.view_is
