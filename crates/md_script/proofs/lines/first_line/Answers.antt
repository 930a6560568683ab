use Rattle.std.proofs.Common.{arith}
use Rattle.std.proofs.lemmas.Grind.{common_steps}
use Rattle.md_script.proofs.FirstLine.{lines-first, lines-last}
use Rattle.md_script.proofs.lines.first_line.Goals as goal

pub returns-then-end-bytes-clause-lines : goal.returns-then-end-bytes-clause-lines
returns-then-end-bytes-clause-lines c =
    let first = lines-first c.args.bytes.now (omega (arith, c.place_of-end.ensures, c.if-end-bytes.true)) in
    grind (arith, common_steps, first, c.place_of-end.ensures, c.without_carriage_return.ensures)

pub returns-else-end-bytes-clause-lines : goal.returns-else-end-bytes-clause-lines
returns-else-end-bytes-clause-lines c = lines-last c.args.bytes.now c.requires (omega (arith, c.place_of-end.ensures, c.if-end-bytes.false))
