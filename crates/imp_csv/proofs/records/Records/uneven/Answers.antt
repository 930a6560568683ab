use Rattle.std.proofs.Common.{◌+◌, ◌==◌, not, length, sym, ap, ◌∙◌}
use Rattle.std.specs.List.{position}
use Rattle.std.specs.Option.{option_map}
use Rattle.imp_csv.specs.Tables.{Row}
use Rattle.imp_csv.proofs.Cuts.{uneven_place}
use Rattle.imp_csv.proofs.records.Records.uneven.Goals as goal

pub returns : goal.returns
returns c =
    let k = c.columns.result in
    c.number_of_other.ensures
    ∙ ap (option_map (λ place. place + 1)) (
    ap (position (λ n. not (n == k))) c.as_slice.ensures.value ∙ sym (uneven_place k c.self.inside.lengths.items c.self.inside.fields c.self.invariant)
    ∙ ap (position (λ (row : Row). not (length row == k))) c.self.view_is
    )
    ∙ ap (λ n. option_map (λ place. place + 1) (position (λ (row : Row). not (length row == n)) c.args.self.now)) c.columns.ensures.value
