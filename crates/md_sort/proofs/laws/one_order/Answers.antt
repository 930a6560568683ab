use Rattle.md_sort.proofs.Alone.{is_there, is_alone}
use Rattle.md_sort.proofs.laws.one_order.Goals as goal

pub returns-clause-there : goal.returns-clause-there
returns-clause-there c order rows differ = is_there order rows differ

pub returns-clause-alone : goal.returns-clause-alone
returns-clause-alone c order rows some other h k = is_alone order rows some other h k
