use Rattle.std.proofs.Common.{ap, arith, length, string_bytes}
use Rattle.csv.proofs.RecordFacts.{cut-length}
use Rattle.imp_csv.proofs.fields.Fields.count_is_small.Goals as goal

pub returns : goal.returns
returns c =
    let ends = c.self.inside.ends in
    omega (arith, ap length c.self.view_is, cut-length 0 ends.items (string_bytes c.self.inside.text), ends.ok.0, ends.ok.1, ends.small)
