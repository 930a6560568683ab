use Rattle.md_machine.proofs.Live.{pending_within_stamps, pending_within_paths}
use Rattle.md_machine.proofs.laws.pending_bounded.Goals as goal

pub returns : goal.returns
returns c = record { stamps = pending_within_stamps; paths = pending_within_paths }
