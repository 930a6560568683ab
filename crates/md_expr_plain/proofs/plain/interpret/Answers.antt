use Rattle.std.proofs.Common.{rules, chars}
use Rattle.md_expr_plain.specs.Plain.{words_of}
use Rattle.md_expr_plain.proofs.Fits.{fit_all, well}
use Rattle.md_expr_plain.proofs.plain.interpret.Goals as goal

pub returns-clause-fit : goal.returns-clause-fit
returns-clause-fit c = fit_all (words_of (chars c.args.text.now)) c.all_of.result (search rules) (search rules)

pub returns-clause-well_made : goal.returns-clause-well_made
returns-clause-well_made c = well c.all_of.result (fit_all (words_of (chars c.args.text.now)) c.all_of.result (search rules) (search rules))
