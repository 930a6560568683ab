use Rattle.std.proofs.Common.{chars}
use Rattle.md_expr.proofs.Readings.{readings_agree}
use Rattle.md_expr.proofs.reading.one_reading.Goals as goal

pub returns : goal.returns
returns c = readings_agree (chars c.args.text.now)
