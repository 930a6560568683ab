use Rattle.std.proofs.Common.{◌≡◌, ◌+◌, ◌≤◌, [], ◌∷◌, length, length-append, sym, ◌∙◌, ap, subst, arith}
use Rattle.md_workers.specs.Teams.{actor_share, fresh_pass, fresh_seat, AreFresh}
use Rattle.md_workers.proofs.Totals.{shared_one, shared_twice, seat_shared_more, roles_more, fresh_more}
use Rattle.md_workers.proofs.team.split_workers.Goals as goal

pub loop-preserved : goal.loop-preserved
loop-preserved g c =
    let inv = c.loop.invariant in
    let n = c.loop.counter in
    let first = c.args.first.now in
    let old = c.loop.first in
    let made = c.in_ok-worker_actor.ensures in
    let actor = c.in_ok-worker_actor.field-0 in
    let items = c.in_ok-push.ensures.items in
    let room : actor_share ≤ old.share = omega (arith, inv.shared.1, c.requires.room.0, c.requires.few.1, c.loop-test.true) in
    let claims : actor_share ≤ c.loop.seat.share = omega (arith, inv.claims.1, c.requires.room.2, c.requires.few.1, c.loop-test.true) in
    let longer : length c.push.new.self.items ≡ length c.loop.actors.items + 1 = ap length items ∙ length-append c.loop.actors.items (actor ∷ []) in
    record {
      shared = shared_twice n 1 first old c.worker_actor.new.first inv.shared (shared_one old c.worker_actor.new.first made.pass room);
      claims = seat_shared_more n c.args.seat.now c.loop.seat c.worker_actor.new.seat inv.claims made.seat claims;
      count = omega (arith, inv.count, longer);
      fresh = λ h. subst (AreFresh first) (sym items) (fresh_more first c.loop.actors.items actor (inv.fresh h) (made.actor.0 ∙ ap fresh_pass inv.shared.0));
      roles = roles_more c.args.actors.now.items c.loop.actors.items c.push.new.self.items actor (fresh_seat c.args.claims.now) n items made.actor.1 inv.roles;
    }
