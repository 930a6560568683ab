use Rattle.std.proofs.Common.{append_assoc}
use Rattle.md_gen.proofs.files.push_json.Goals as goal

pub returns : goal.returns
returns c = simp append_assoc c.write.ensures.bytes
