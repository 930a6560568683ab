use denote.Param.Send.{sendable}
use Rattle.md_tests.proofs.turns.acts_of.Goals as goal

pub act_by_threads-pass-requires-clause-sends : goal.act_by_threads-pass-requires-clause-sends
act_by_threads-pass-requires-clause-sends g c κs within = (search (sendable, c.type_bounds.send-C) depth 20, search (sendable, c.type_bounds.sync-R) depth 20)
