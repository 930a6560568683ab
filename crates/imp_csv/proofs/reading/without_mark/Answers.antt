use Rattle.imp_csv.proofs.Readings.{mark_gone, no_mark}
use Rattle.imp_csv.proofs.reading.without_mark.Goals as goal

pub returns-in-Some : goal.returns-in-Some
returns-in-Some c =
    let cut = c.in-Some.ensures.cases in
    rw cut.2 (mark_gone c.args.text.now _ cut.1.split)

pub returns-in-None : goal.returns-in-None
returns-in-None c = no_mark c.args.text.now c.in-None.ensures.cases
