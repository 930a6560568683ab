use Rattle.std.proofs.Common.{FitsSigned, w32, rules}
use Rattle.std.proofs.lemmas.Int.{to_z-of_z}
use Rattle.md_files.specs.FileAnswers.{IsPrefix}
use Rattle.md_files.proofs.Answering.{ok_then, gives_read}
use Rattle.md_files.proofs.asking.read_file.Goals as goal

pub returns-in-Ok-clause-asked : goal.returns-in-Ok-clause-asked
returns-in-Ok-clause-asked g c =
    let fits : FitsSigned w32 c.args.offset = search rules in
    let prefix : IsPrefix (g.T.Tree.content c.args.tree.now) c.args.entry.now.path c.deref.result.now = rw c.deref.ensures.value c.in-Ok.ensures.prefix in
    let made = simp to_z-of_z at c.imported.ensures in
    ok_then _ _ (gives_read _ _ _ c.args.entry.now c.deref.result.now c.args.offset c.in-Ok.ensures.cause prefix) c.imported.result made
