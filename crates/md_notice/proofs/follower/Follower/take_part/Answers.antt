use Rattle.std.proofs.Common.{◌∙◌, ap}
use Rattle.md_notice.specs.Following.{Followed, with_part}
use Rattle.md_notice.proofs.Brought.{followed, part_is}
use Rattle.md_notice.proofs.follower.Follower.take_part.Goals as goal

pub invariant_of-self-2 : goal.invariant_of-self-2
invariant_of-self-2 c =
    let old = followed c.self.inside.sorted.order c.self.inside.sorted.rows c.self.inside.version in
    let hits = c.into_vec-rows.ensures ∙ c.in_ok-copy.ensures in
    (part_is old c.self.invariant _ _ c.reserve.ensures.order c.set_all.ensures.order _ _ c.args.part.now _ c.reserve.ensures.rows hits c.set_all.ensures.rows).0

pub returns-clause-ok : goal.returns-clause-ok
returns-clause-ok c =
    let old = followed c.self.inside.sorted.order c.self.inside.sorted.rows c.self.inside.version in
    let hits = c.into_vec-rows.ensures ∙ c.in_ok-copy.ensures in
    (part_is old c.self.invariant _ _ c.reserve.ensures.order c.set_all.ensures.order _ _ c.args.part.now _ c.reserve.ensures.rows hits c.set_all.ensures.rows).1
    ∙ ap (λ (f : Followed). with_part f c.args.part.now) c.self.view_is
