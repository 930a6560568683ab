use Rattle.std.proofs.Common.{ap, ◌∙◌, arith, length}
use Rattle.imp_csv.specs.Tables.{later_of}
use Rattle.imp_csv.proofs.Cuts.{later_none, later_some, after_first}
use Rattle.imp_csv.proofs.records.Records.rows.Goals as goal

pub returns-in-empty-clause-value : goal.returns-in-empty-clause-value
returns-in-empty-clause-value c =
    later_none c.self.inside.lengths.items c.self.inside.fields (omega (arith, c.in-empty.len_below, ap length c.as_slice.ensures.value)) ∙ ap (λ rows. length (later_of rows)) c.self.view_is

pub returns-in-len1-up-clause-value : goal.returns-in-len1-up-clause-value
returns-in-len1-up-clause-value c =
    ap (λ ns. length (after_first ns)) c.as_slice.ensures.value
    ∙ later_some c.self.inside.lengths.items c.self.inside.fields (omega (arith, c.in-len1-up.len_at_least, ap length c.as_slice.ensures.value))
    ∙ ap (λ rows. length (later_of rows)) c.self.view_is
