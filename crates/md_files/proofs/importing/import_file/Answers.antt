use Rattle.std.proofs.Common.{[], ◌∷◌}
use Rattle.md_files.specs.FileAnswers.{IsRead}
use Rattle.md_files.proofs.Turns.{none_so_far, one_so_far}
use Rattle.md_files.proofs.importing.import_file.Goals as goal

pub returns-in_err-asked-clause-so_far : goal.returns-in_err-asked-clause-so_far
returns-in_err-asked-clause-so_far g c = none_so_far (IsRead (g.T.Tree.content c.args.tree.now)) _ _ (c.args.entry.now ∷ []) c.in_err-asked.ensures.kept

pub returns-in_err-push_count-clause-so_far : goal.returns-in_err-push_count-clause-so_far
returns-in_err-push_count-clause-so_far g c =
    let asked = c.in_ok-asked.ensures.asked in
    one_so_far (IsRead (g.T.Tree.content c.args.tree.now)) _ _ c.args.entry.now asked.answer asked.answers

pub returns-clause-so_far : goal.returns-clause-so_far
returns-clause-so_far g c =
    let asked = c.in_ok-asked.ensures.asked in
    one_so_far (IsRead (g.T.Tree.content c.args.tree.now)) _ _ c.args.entry.now asked.answer asked.answers
