use Rattle.std.proofs.Common.{◌≡◌, ◌+◌, ◌≤◌, length}
use Rattle.md_turn.specs.Passes.{made_by}
use Rattle.md_merge.specs.Joining.{ends_of_numbers}
use Rattle.md_workers.specs.Actors.{HasMade, IsSamePass, IsSameSeat}
use Rattle.md_workers.proofs.worker.work.Given as goal

-- the jobs drawn so far were ended
abbrev pub invariant-loop : goal.invariant-loop
invariant-loop g l = record {
  loops : (goal.iterator-loop g).can_next l.iterator' × (goal.iterator-loop g).is_finite l.iterator';
  pass : IsSamePass l.initial.pass l.pass;
  seat : IsSameSeat l.initial.seat l.seat;
  few : length l.seat.drawn ≤ length (g.J.Jobs.jobs l.jobs);
  count : made_by l.pass ≡ made_by l.initial.pass + length l.seat.drawn;
  made : HasMade l.initial.pass l.pass (ends_of_numbers (g.J.Jobs.jobs l.jobs) l.seat.drawn);
}
