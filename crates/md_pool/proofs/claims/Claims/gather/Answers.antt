use Rattle.std.proofs.Common.{◌≡◌, ◌∙◌, ◌∷◌, ◌++◌, [], ap, option_to_list}
use Rattle.md_pool.specs.Claims.{Drawer, whole_share}
use Rattle.md_pool.proofs.Gathered.{popped, popped_is, gathered_one, gathered_more, shares_fit}
use Rattle.md_pool.proofs.claims.Claims.gather.Goals as goal

pub loop-seat-init : goal.loop-seat-init
loop-seat-init c =
    let id = c.args.self.now.id in
    let s = c.unwrap-all.result in
    let a = popped (λ (d : Drawer). d.id ≡ id) _ _ _ s c.pop.ensures.items c.unwrap-all.ensures c.requires.seats in
    (a.0, a.1, (s ∷ [], c.pop.ensures.items ∙ ap (λ r. c.pop.new.self.items ++ option_to_list r) c.unwrap-all.ensures, gathered_one s))

pub join-requires-clause-shares : goal.join-requires-clause-shares
join-requires-clause-shares c =
    let inv = c.loop-seat.invariant in
    let q = c.in-Some.seat in
    shares_fit c.args.seats.items _ inv.2.0 c.loop-seat.all q whole_share c.requires.whole
    (popped_is _ _ _ inv.2.0 _ q c.pop-in-loop-seat.ensures.items c.in-Some.is inv.2.1) inv.2.2

pub loop-seat-preserved : goal.loop-seat-preserved
loop-seat-preserved c =
    let id = c.args.self.now.id in
    let inv = c.loop-seat.invariant in
    let q = c.in-Some.seat in
    let e = c.pop-in-loop-seat.ensures.items in
    let a = popped (λ (d : Drawer). d.id ≡ id) _ _ _ q e c.in-Some.is inv.1 in
    (ap (λ (d : Drawer). d.id) c.join.ensures ∙ inv.0, a.1, (q ∷ inv.2.0, popped_is _ _ _ inv.2.0 _ q e c.in-Some.is inv.2.1, gathered_more inv.2.0 c.loop-seat.all q c.join.new.seat inv.2.2 c.join.ensures))
