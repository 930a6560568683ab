use Rattle.std.proofs.Common.{◌≡◌, Some, ap, sym, ◌∙◌}
use Rattle.std.specs.Option.{option_map}
use Rattle.md_live.specs.Telling.{Telling, followed, followed_in}
use Rattle.md_live.proofs.Holding.{follows_so}
use Rattle.md_live.proofs.session.Session.follower.Goals as goal

pub returns : goal.returns
returns c =
    let held = c.in-Some.held in
    let is : c.take_part.new.self ≡ followed held = follows_so held c.new-follower.result c.take_part.new.self c.new-follower.ensures c.in_ok-take_part.ensures.ok in
    ap Some is
    ∙ ap (option_map followed) (sym c.in-Some.is ∙ c.in_ok-held.ensures)
    ∙ ap (λ (t : Telling). followed_in t.state c.args.client c.args.number) c.self.view_is
