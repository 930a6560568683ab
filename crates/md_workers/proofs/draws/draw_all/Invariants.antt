use Rattle.std.proofs.Common.{◌≡◌, ◌+◌, take}
use Rattle.md_turn.specs.Passes.{made_by}
use Rattle.md_merge.specs.Jobs.{draws}
use Rattle.md_workers.specs.Actors.{HasMade, IsSamePass}
use Rattle.md_workers.proofs.draws.draw_all.Given as goal

-- tickets were drawn for the jobs so far
abbrev pub invariant-loop-number : goal.invariant-loop-number
invariant-loop-number g l = record {
  same : IsSamePass l.initial.pass l.pass;
  count : made_by l.pass ≡ made_by l.initial.pass + l.number;
  made : HasMade l.initial.pass l.pass (draws (take l.number (g.J.Jobs.jobs l.jobs)));
}
