use Rattle.std.proofs.Common.{ap, ◌∙◌}
use Rattle.std.proofs.lemmas.Result.{IfOk-weaker}
use Rattle.md_live.specs.Actions.{actions_of}
use Rattle.md_live.specs.Telling.{Telling, sum_so_far}
use Rattle.md_live.proofs.Summing.{sum_all}
use Rattle.md_live.proofs.sums.sum_given.Goals as goal

pub returns : goal.returns
returns c =
    let clients = c.args.clients.now in
    let actions = actions_of c.args.start.now.moment c.args.start.now.offset c.args.lines.now c.args.givens.items in
    IfOk-weaker c.sum.result _ _ (λ sum is. is ∙ ap (λ (t : Telling). sum_so_far t clients) c.in_ok-session.ensures ∙ sum_all actions clients) c.sum.ensures
