use Rattle.std.proofs.Common.{rules}
use Rattle.md_script.proofs.Naming.{no_name}
use Rattle.md_script.proofs.options.named.Goals as goal

pub returns-in_default : goal.returns-in_default
returns-in_default c = no_name c.args.descending c.args.name.now (search rules)
