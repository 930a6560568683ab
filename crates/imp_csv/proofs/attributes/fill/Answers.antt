use Rattle.std.proofs.Common.{subst, FitsSigned, w32}
use Rattle.std.proofs.lemmas.Int.{to_z-of_z}
use Rattle.imp_rules.specs.Faults.{FillsAs}
use Rattle.imp_csv.specs.Tables.{attributes_of}
use Rattle.imp_csv.proofs.attributes.fill.Goals as goal

pub returns : goal.returns
returns c =
    let fits : FitsSigned w32 c.args.offset = c.ranges.offset in
    let given : FillsAs c.attributes_of.result (attributes_of c.args.offset c.in_ok-records.records) = simp to_z-of_z at c.attributes_of.ensures in
    subst (λ rows. FillsAs c.attributes_of.result (attributes_of c.args.offset rows)) c.in_ok-records.ensures given
