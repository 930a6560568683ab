use Rattle.std.proofs.Common.{◌∙◌, sym, ap, length, string_bytes}
use Rattle.csv.proofs.RecordFacts.{cut-length}
use Rattle.imp_csv.proofs.fields.Fields.len.Goals as goal

pub returns : goal.returns
returns c = c.len.ensures ∙ c.self.inside.ends.ok.0 ∙ sym (cut-length 0 c.self.inside.ends.items (string_bytes c.self.inside.text)) ∙ ap length c.self.view_is
