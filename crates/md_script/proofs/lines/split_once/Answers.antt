use Rattle.std.proofs.Common.{◌==◌, arith, sym}
use Rattle.md_script.proofs.FirstLine.{any_found, any_none}
use Rattle.md_script.proofs.lines.split_once.Goals as goal

pub returns-then-end-text-clause-found : goal.returns-then-end-text-clause-found
returns-then-end-text-clause-found c = sym (any_found (λ b. b == c.args.byte) c.args.text.now (omega (arith, c.place_of-end.ensures, c.if-end-text.true)))

pub returns-else-end-text-clause-found : goal.returns-else-end-text-clause-found
returns-else-end-text-clause-found c = sym (any_none (λ b. b == c.args.byte) c.args.text.now (omega (arith, c.place_of-end.ensures, c.if-end-text.false)))
