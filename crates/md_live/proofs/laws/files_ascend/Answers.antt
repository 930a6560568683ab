use Rattle.md_live.proofs.Rootless.{script_ascends}
use Rattle.md_live.proofs.laws.files_ascend.Goals as goal

pub returns : goal.returns
returns c = script_ascends
