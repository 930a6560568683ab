use Rattle.std.proofs.Common.{◌≡◌, ℕ, ◌+◌, ◌<◌, ◌≤◌, [], ◌∷◌, ◌++◌, List, length, refl, sym, ◌∙◌, ap, subst, arith, length-append}
use Rattle.md_pool.specs.Claims.{Drawer}
use Rattle.md_merge.specs.Jobs.{end_of}
use Rattle.md_merge.specs.Joining.{ends_of_numbers}
use Rattle.md_workers.specs.Actors.{HasMade}
use Rattle.md_workers.proofs.Making.{made_none, claimed, unclaimed, job_there, change_there, end_made, end_reached}
use Rattle.md_workers.proofs.worker.work.Goals as goal

pub loop-init : goal.loop-init
loop-init g c =
    let none = c.requires.room.2 in
    let jobs = g.J.Jobs.jobs c.args.jobs.now in
    let zero : length c.args.seat.now.drawn ≡ 0 = ap length none in
    record {
      loops = (tt, tt);
      pass = (refl, refl);
      seat = (refl, refl);
      few = omega arith;
      count = omega arith;
      made = subst (λ (drawn : List ℕ). HasMade c.args.pass.now c.args.pass.now (ends_of_numbers jobs drawn)) (sym none) (made_none c.args.pass.now);
    }

pub returns-in_default-clause-worked : goal.returns-in_default-clause-worked
returns-in_default-clause-worked g c =
    let jobs = g.J.Jobs.jobs c.args.jobs.now in
    let claim = c.claim.ensures in
    let drawn = ap (λ (d : Drawer). d.drawn) claim.drawn in
    let all = unclaimed _ _ _ claim.answer_is c.in_default.is in
    let past : length jobs ≤ claim.number = subst (λ n. n ≤ claim.number) c.requires.claims.1 all in
    record {
      made = end_reached jobs _ _ c.loop.seat.drawn _ claim.number drawn past c.loop.invariant.made;
      at_end = record { earlier = c.loop.seat.drawn; last = claim.number; drawn_is = drawn; past = past };
    }

pub overflow_add-number : goal.overflow_add-number
overflow_add-number g c =
    let claim = c.claim.ensures in
    let is = claimed _ _ _ c.in-Some-claim.number claim.answer_is c.in-Some-claim.is in
    omega (arith, is.0, is.1, c.requires.claims.1, c.requires.few)

pub loop-preserved : goal.loop-preserved
loop-preserved g c =
    let jobs = g.J.Jobs.jobs c.args.jobs.now in
    let inv = c.loop.invariant in
    let claim = c.claim.ensures in
    let number = c.in-Some-claim.number in
    let is = claimed _ _ _ number claim.answer_is c.in-Some-claim.is in
    let below : number < length jobs = omega (arith, is.0, is.1, c.requires.claims.1) in
    let drawn = ap (λ (d : Drawer). d.drawn) claim.drawn ∙ ap (λ n. c.loop.seat.drawn ++ n ∷ []) is.0 in
    let longer : length c.claim.new.seat.drawn ≡ length c.loop.seat.drawn + 1 = ap length drawn ∙ length-append c.loop.seat.drawn (number ∷ []) in
    let job = job_there jobs number below in
    let change = change_there jobs number job.0 c.in_ok-change.change job.1 c.in_ok-change.ensures in
    let event = c.end_of.ensures ∙ ap (end_of (number + 1)) change in
    let same = c.in_ok-act.ensures.same in
    record {
      loops = (tt, tt);
      pass = (same.0 ∙ inv.pass.0, same.1 ∙ inv.pass.1);
      seat = (ap (λ (d : Drawer). d.id) claim.drawn ∙ inv.seat.0, ap (λ (d : Drawer). d.share) claim.drawn ∙ inv.seat.1);
      few = omega (arith, longer, claim.least, is.0, below);
      count = omega (arith, c.in_ok-act.ensures.count, inv.count, longer);
      made = end_made jobs _ _ _ c.loop.seat.drawn _ number job.0 _ drawn job.1 event inv.made c.in_ok-act.ensures.made;
    }
