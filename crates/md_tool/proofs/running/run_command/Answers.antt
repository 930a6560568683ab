use Rattle.md_tool.proofs.Ending.{ends_of}
use Rattle.md_tool.proofs.running.run_command.Goals as goal

pub returns-clause-ends : goal.returns-clause-ends
returns-clause-ends g c = ends_of _ _ _ _ c.asked-report.result c.asked-report.ensures.asks c.print.ensures.prints c.print.ensures.memory
