use Rattle.std.proofs.Common.{◌≡◌, refl, rules, FitsSigned, w32, w64}
use Rattle.std.proofs.lemmas.Int.{to_z-of_z}
use Rattle.md_files.specs.FileAnswers.{IsRead}
use Rattle.md_files.proofs.Answering.{ok_then}
use Rattle.md_files.proofs.Turns.{none_so_far}
use Rattle.md_machine.specs.Answers.{condition_of}
use Rattle.md_find.proofs.Among.{among}
use Rattle.md_find.proofs.finding.find_among.Goals as goal

pub returns-clause-found : goal.returns-clause-found
returns-clause-found g c =
    let spec = c.args.spec.now in
    let moment_fits : FitsSigned w64 spec.now = search rules in
    let offset_fits : FitsSigned w32 spec.offset = search rules in
    let is : c.in_ok-filter.filter ≡ condition_of spec = simp to_z-of_z at c.in_ok-filter.ensures in
    ok_then _ _ (among _ _ _ c.args.output c.args.entries.now c.in_ok-filter.filter spec is) c.find_by.result c.find_by.ensures.found

pub returns-in_err-filter-clause-so_far : goal.returns-in_err-filter-clause-so_far
returns-in_err-filter-clause-so_far g c = none_so_far (IsRead (g.T.Tree.content c.args.tree.now)) _ _ c.args.entries.now refl
