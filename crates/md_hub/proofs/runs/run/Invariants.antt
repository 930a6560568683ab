use Rattle.std.proofs.Common.{take}
use Rattle.md_hub.specs.Received.{IsReceived}
use Rattle.md_hub.proofs.runs.run.Given as goal

abbrev pub invariant-loop-event : goal.invariant-loop-event
invariant-loop-event g l = IsReceived l.fn.limits (take l.event-index l.events) l.replies.items l.hub.state
