use Rattle.std.proofs.Common.{rules}
use Rattle.md_script.proofs.Reading.{path_read, path_bad}
use Rattle.md_script.proofs.words.read_path.Goals as goal

pub returns-in-Err-Bad : goal.returns-in-Err-Bad
returns-in-Err-Bad c = path_bad c.args.text.now c.in-Some.text.now (search rules) (search rules)

pub returns-in-Ok : goal.returns-in-Ok
returns-in-Ok c = path_read c.args.text.now c.in-Some.text.now c.in-Ok.path (search rules) c.in-Ok.ensures.ok.0 c.in-Ok.ensures.ok.1
