use Rattle.std.proofs.Common.{◌≡◌, Some, pos, ap, sym, ◌∙◌, rules}
use Rattle.std.proofs.lemmas.Result.{IfOk-weaker}
use Rattle.md_script.specs.Scripts.{verdict}
use Rattle.md_gen.specs.Scripts.{clients, script}
use Rattle.md_live.specs.Sums.{Sums}
use Rattle.md_summary.specs.Summary.{generated}
use Rattle.md_summary.proofs.summaries.summarize.Goals as goal

pub returns : goal.returns
returns c =
    let text : c.as_str.result.now ≡ script c.args.start c.args.count = c.as_str.ensures.value ∙ c.in_ok-made.ensures.script in
    let sums : Sums (Some (generated c.args.start c.args.count)) 0 0 (pos 0) (pos 0) c.in_ok-script.script clients c.in_ok-sum.sum = search rules in
    IfOk-weaker c.summary_text.result _ _
    (λ _ is. record {
      lines = c.in_ok-script.script;
      read = ap verdict (sym text) ∙ c.in_ok-script.ensures.script;
      timely = c.in_ok-script.ensures.timely;
      sum = c.in_ok-sum.sum;
      sums = sums;
      is = is;
    })
    c.summary_text.ensures
