use Rattle.std.proofs.Common.{refl}
use Rattle.csv.specs.Records.{cut_from}
use Rattle.imp_csv.specs.Records.{AreEnds}
use Rattle.imp_csv.proofs.fields.Fields.new.Goals as goal

pub invariant_of-result : goal.invariant_of-result
unfolding AreEnds
invariant_of-result c = rw (c.new-2.ensures.items, c.new.ensures.bytes) refl

pub returns : goal.returns
unfolding cut_from
returns c = rw c.new-2.ensures.items refl
