use Rattle.std.proofs.Common.{FitsSigned, w32}
use Rattle.std.proofs.lemmas.Int.{to_z-of_z}
use Rattle.imp_json.proofs.values.value_of.Goals as goal

pub returns-in-Text : goal.returns-in-Text
returns-in-Text c = rw c.in-Text.is c.text_of.ensures

pub returns-in-Number : goal.returns-in-Number
returns-in-Number c = rw c.in-Number.is c.number_of.ensures

pub returns-in-Moment : goal.returns-in-Moment
returns-in-Moment c = let fits : FitsSigned w32 c.args.offset = c.ranges.offset in rw c.in-Moment.is (simp to_z-of_z at c.moment_of.ensures)
