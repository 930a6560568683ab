use Rattle.std.proofs.Common.{ap, sym, ◌∙◌}
use Rattle.md_live.proofs.Scripts.{few_lines}
use Rattle.md_script.specs.Scripts.{verdict}
use Rattle.md_summary.proofs.InTime.{read_in}
use Rattle.md_summary.proofs.summaries.read.Goals as goal

pub returns-in-Ok-clause-few : goal.returns-in-Ok-clause-few
returns-in-Ok-clause-few c = few_lines c.as_bytes.result.now c.in-Ok.script c.in-Ok.ensures.ok

pub returns-in-Ok-clause-timely : goal.returns-in-Ok-clause-timely
returns-in-Ok-clause-timely c = read_in c.args.text.now c.in-Ok.script c.requires (ap verdict (sym c.as_bytes.ensures.value) ∙ c.in-Ok.ensures.ok)
