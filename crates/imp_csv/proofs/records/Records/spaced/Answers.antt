use Rattle.std.proofs.Common.{sym, ap, ◌∙◌}
use Rattle.std.specs.List.{flat_map}
use Rattle.imp_rules.specs.Content.{spaced}
use Rattle.imp_csv.specs.Tables.{Row}
use Rattle.imp_csv.proofs.Cuts.{cut_joined}
use Rattle.imp_csv.proofs.records.Records.spaced.Goals as goal

pub returns : goal.returns
returns c =
    let rows = cut_joined c.self.inside.lengths.items c.self.inside.fields c.self.invariant in
    rw c.new-text.ensures.bytes at c.in_ok-push_all.ensures ∙ ap spaced (sym rows ∙ ap (flat_map (λ (row : Row). row)) c.self.view_is)
