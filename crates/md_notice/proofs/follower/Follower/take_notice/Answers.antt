use Rattle.std.proofs.Common.{◌∙◌, ap}
use Rattle.md_world.specs.Holding.{without_paths}
use Rattle.md_notice.specs.Following.{Followed, with_notice}
use Rattle.md_notice.proofs.Brought.{followed, notice_is}
use Rattle.md_notice.proofs.follower.Follower.take_notice.Goals as goal

pub invariant_of-self-2 : goal.invariant_of-self-2
invariant_of-self-2 c =
    let old = followed c.self.inside.sorted.order c.self.inside.sorted.rows c.self.inside.version in
    let out = c.take_all_out.ensures.rows ∙ (λ i. without_paths (c.reserve.ensures.rows i) (c.as_slice.ensures i)) in
    (notice_is old c.self.invariant _ _ (c.take_all_out.ensures.order ∙ c.reserve.ensures.order) c.set_all.ensures.order _ _ c.args.notice.now _ out c.in_ok-rows.ensures c.set_all.ensures.rows).0

pub returns-clause-ok : goal.returns-clause-ok
returns-clause-ok c =
    let old = followed c.self.inside.sorted.order c.self.inside.sorted.rows c.self.inside.version in
    let out = c.take_all_out.ensures.rows ∙ (λ i. without_paths (c.reserve.ensures.rows i) (c.as_slice.ensures i)) in
    (notice_is old c.self.invariant _ _ (c.take_all_out.ensures.order ∙ c.reserve.ensures.order) c.set_all.ensures.order _ _ c.args.notice.now _ out c.in_ok-rows.ensures c.set_all.ensures.rows).1
    ∙ ap (λ (f : Followed). with_notice f c.args.notice.now) c.self.view_is
