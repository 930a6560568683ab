use Rattle.std.proofs.Common.{[], ◌∷◌, rules, sym, OnOk, FitsSigned, w32}
use Rattle.std.proofs.lemmas.Int.{to_z-of_z}
use Rattle.md_files.specs.Additions.{CountsFile}
use Rattle.md_files.specs.FileAnswers.{IsEntry, IsRead, InTurnSoFar}
use Rattle.md_files.specs.Folders.IsFoundSoFar.{without_failure, refused, in_file}
use Rattle.md_files.proofs.Answering.{on_ok}
use Rattle.md_files.proofs.CountedFiles.{path_file}
use Rattle.md_files.proofs.importing.import_path.Goals as goal

pub returns-in-Ok-clause-counts : goal.returns-in-Ok-clause-counts
returns-in-Ok-clause-counts g c =
    let fits : FitsSigned w32 c.args.offset = search rules in
    let known = g.T.Tree.content c.args.tree.now in
    let before = g.T.Tree.failures c.args.tree.now in
    let now = g.T.Tree.failures c.import_file.new.tree in
    let is_entry : IsEntry known c.args.path.now c.in-Ok.entry = record { named = c.in-Ok.ensures.asked; moment = c.in-Ok.ensures.moment; agrees = c.in-Ok.ensures.entry } in
    let made = simp to_z-of_z at c.import_file.ensures.counts in
    let counts : OnOk c.import_file.result (CountsFile known before now c.args.offset c.in-Ok.entry c.args.report.now c.import_file.new.report) =
    rw (sym c.in-Ok.ensures.content, sym c.in-Ok.ensures.cause) made in
    on_ok _ _ (path_file known before c.args.offset now c.args.path.now c.in-Ok.entry c.args.report.now c.import_file.new.report is_entry) c.import_file.result counts

pub returns-in-Ok-clause-so_far : goal.returns-in-Ok-clause-so_far
returns-in-Ok-clause-so_far g c =
    let known = g.T.Tree.content c.args.tree.now in
    let before = g.T.Tree.failures c.args.tree.now in
    let now = g.T.Tree.failures c.import_file.new.tree in
    let is_entry : IsEntry known c.args.path.now c.in-Ok.entry = record { named = c.in-Ok.ensures.asked; moment = c.in-Ok.ensures.moment; agrees = c.in-Ok.ensures.entry } in
    let asked : InTurnSoFar (IsRead known) before now (c.in-Ok.entry ∷ []) = rw (sym c.in-Ok.ensures.content, sym c.in-Ok.ensures.cause) c.import_file.ensures.so_far in
    in_file c.in-Ok.entry is_entry asked

pub returns-in-Err-Absent-clause-so_far : goal.returns-in-Err-Absent-clause-so_far
returns-in-Err-Absent-clause-so_far g c =
    let is = c.in-Err-Absent.field-0-is in
    let kept = rw is at c.in-Err-Absent.ensures.cause in
    rw (sym c.in-Err-Absent.ensures.content, sym kept) c.import_folder.ensures.so_far

pub returns-in-Err-Failed-clause-so_far : goal.returns-in-Err-Failed-clause-so_far
returns-in-Err-Failed-clause-so_far g c =
    let is = c.in-Err-Failed.field-0-is in
    refused (rw is at c.in-Err-Failed.ensures.cause)

pub returns-in-Err-Memory-clause-so_far : goal.returns-in-Err-Memory-clause-so_far
returns-in-Err-Memory-clause-so_far g c =
    let is = c.in-Err-Memory.field-0-is in
    without_failure (rw is at c.in-Err-Memory.ensures.cause)
