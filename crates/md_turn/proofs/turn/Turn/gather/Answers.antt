use Rattle.std.proofs.Common.{◌≡◌, ◌∙◌, ◌∷◌, ◌++◌, [], sym, ap}
use Rattle.md_turn.specs.Passes.{Known}
use Rattle.md_turn.proofs.Passing.{popped, popped_is, gathered_one, gathered_more}
use Rattle.md_turn.proofs.turn.Turn.gather.Goals as goal

pub loop-other-init : goal.loop-other-init
loop-other-init g c =
    let id = c.args.self.now.id in
    let p = c.unwrap-pass.result in
    let a = popped (λ (q : Known). q.id ≡ id) _ _ _ p c.pop.ensures.items c.unwrap-pass.ensures c.requires.turn in
    (a.0, a.1, (p ∷ [], c.pop.ensures.items ∙ ap (λ r. c.pop.new.self.items ++ Rattle.std.proofs.Common.option_to_list r) c.unwrap-pass.ensures, gathered_one p c.own_are_seen.ensures.seen c.own_are_seen.ensures.rises))

pub loop-other-preserved : goal.loop-other-preserved
loop-other-preserved g c =
    let id = c.args.self.now.id in
    let inv = c.loop-other.invariant in
    let q = c.in-Some.other in
    let e = c.pop-in-loop-other.ensures.items in
    let a = popped (λ (p : Known). p.id ≡ id) _ _ _ q e c.in-Some.is inv.1 in
    (c.join.ensures.same ∙ inv.0, a.1, (q ∷ inv.2.0, popped_is _ _ _ inv.2.0 _ q e c.in-Some.is inv.2.1, gathered_more inv.2.0 c.loop-other.pass q c.join.new.pass inv.2.2 c.join.ensures.joined c.join.ensures.own.1 c.own_are_seen-in-Some.ensures.rises))
