use Rattle.std.proofs.Common.{◌∙◌}
use Rattle.md_store.proofs.Placing.{number_places}
use Rattle.md_store.proofs.slot.push_slot.Goals as goal

pub push-requires-clause-absent : goal.push-requires-clause-absent
push-requires-clause-absent c = number_places c.args.path c.args.paths.now.keys c.args.slots.now.items c.requires.same ∙ c.requires.absent
