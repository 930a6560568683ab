use Rattle.md_tool.proofs.Failures.{command_counted}
use Rattle.md_tool.proofs.laws.askings_are_counted.Goals as goal

pub returns : goal.returns
returns c = command_counted
