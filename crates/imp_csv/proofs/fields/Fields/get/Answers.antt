use Rattle.std.proofs.Common.{sym, arith}
use Rattle.csv.proofs.RecordFacts.{field-none}
use Rattle.imp_csv.proofs.fields.Fields.get.Goals as goal

pub returns-else-place-len : goal.returns-else-place-len
returns-else-place-len c = sym (field-none c.args.self.now c.args.place (omega (arith, c.if-place-len.false, c.len.ensures)))
