use Rattle.md_machine.proofs.Imports.{opening_room, next_accepted, all_accepted, standard_accepted}
use Rattle.md_machine.proofs.laws.imports_accepted.Goals as goal

pub returns : goal.returns
returns c = record { opening = opening_room; next = next_accepted; all = all_accepted; shipped = standard_accepted }
