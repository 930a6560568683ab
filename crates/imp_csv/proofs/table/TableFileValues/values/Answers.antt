use Rattle.std.proofs.Common.{FitsSigned, w32, rules}
use Rattle.std.proofs.lemmas.Int.{to_z-of_z}
use Rattle.imp_csv.proofs.table.TableFileValues.values.Goals as goal

pub returns-clause-value : goal.returns-clause-value
returns-clause-value c = let fits : FitsSigned w32 c.args.self.now.offset = search rules in simp to_z-of_z at c.values_of_name.ensures.value
