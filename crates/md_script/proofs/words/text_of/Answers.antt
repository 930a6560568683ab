use Rattle.md_script.proofs.Reading.{text_some, text_none}
use Rattle.md_script.proofs.words.text_of.Goals as goal

pub returns-in-Ok : goal.returns-in-Ok
returns-in-Ok c = text_some c.args.bytes.now c.in-Ok.text.now c.in-Ok.ensures.cases.0 c.in-Ok.ensures.cases.1

pub returns-in-Err : goal.returns-in-Err
returns-in-Err c = text_none c.args.bytes.now c.in-Err.ensures.cases.0
