use Rattle.std.proofs.Common.{rules, chars}
use Rattle.md_expr_plain.proofs.Fits.{fit_named, well}
use Rattle.md_expr_plain.proofs.plain.named.Goals as goal

pub returns-clause-fit : goal.returns-clause-fit
returns-clause-fit c = fit_named (chars c.args.text.now) c.equality.result (search rules)

pub returns-clause-well_made : goal.returns-clause-well_made
returns-clause-well_made c = well c.equality.result (fit_named (chars c.args.text.now) c.equality.result (search rules))
