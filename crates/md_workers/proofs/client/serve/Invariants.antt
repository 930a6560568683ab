use Rattle.std.proofs.Common.{◌≡◌, ◌+◌, ◌++◌, length}
use Rattle.std.specs.Vec.Iter.{into_iter_items}
use Rattle.md_turn.specs.Passes.{made_by}
use Rattle.md_workers.specs.Actors.{HasMade, IsSamePass}
use Rattle.md_workers.proofs.client.serve.Given as goal

-- the events so far were answered
abbrev pub invariant-loop-event : goal.invariant-loop-event
invariant-loop-event g l = record {
  front : l.yielded ++ into_iter_items l.event-iterator ≡ l.fn.events;
  same : IsSamePass l.initial.pass l.pass;
  count : made_by l.pass ≡ made_by l.initial.pass + length l.yielded;
  made : HasMade l.initial.pass l.pass l.yielded;
}
