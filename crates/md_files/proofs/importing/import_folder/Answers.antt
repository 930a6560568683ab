use Rattle.std.proofs.Common.{rules, OnOk, sym, FitsSigned, w32}
use Rattle.std.proofs.lemmas.Int.{to_z-of_z}
use Rattle.std.proofs.lemmas.List.Sorted.{All-permutation}
use Rattle.md_value.specs.Values.{IsMoment}
use Rattle.md_source.specs.declared.tree.Entry.{Entry}
use Rattle.md_files.specs.Additions.{CountsFiles}
use Rattle.md_files.specs.FileAnswers.{IsRead, InTurnSoFar}
use Rattle.md_files.specs.Folders.{IsListed}
use Rattle.md_files.specs.Folders.IsFoundSoFar.{without_failure, refused, in_folder}
use Rattle.md_files.proofs.Answering.{on_ok}
use Rattle.md_files.proofs.CountedFiles.{path_folder}
use Rattle.md_files.proofs.Orders.{listed}
use Rattle.md_files.proofs.importing.import_folder.Goals as goal

pub import_files-requires : goal.import_files-requires
import_files-requires g c =
    rw c.deref.ensures.value (All-permutation (λ (entry : Entry). IsMoment entry.changed) c.in-Ok.entries.items c.in_path_order-entries.result.items c.in_path_order-entries.ensures.same c.in-Ok.ensures.listing.moments)

pub returns-in-Ok-clause-counts : goal.returns-in-Ok-clause-counts
returns-in-Ok-clause-counts g c =
    let fits : FitsSigned w32 c.args.offset = search rules in
    let known = g.T.Tree.content c.args.tree.now in
    let before = g.T.Tree.failures c.args.tree.now in
    let now = g.T.Tree.failures c.import_files.new.tree in
    let made = simp to_z-of_z at c.import_files.ensures.counts in
    let counts : OnOk c.import_files.result (CountsFiles known before now c.args.offset c.deref.result.now c.args.report.now c.import_files.new.report) =
    rw (sym c.in-Ok.ensures.content, sym c.in-Ok.ensures.cause) made in
    let is_listed : IsListed known c.args.path.now c.deref.result.now =
    rw c.deref.ensures.value
    (listed known c.args.path.now c.in-Ok.entries.items c.in_path_order-entries.result.items c.in-Ok.ensures.listing c.in-Ok.ensures.folder c.in-Ok.ensures.entries c.in_path_order-entries.ensures.same c.in_path_order-entries.ensures.ordered) in
    on_ok _ _ (path_folder known before c.args.offset now c.args.path.now c.deref.result.now c.args.report.now c.import_files.new.report c.requires is_listed) c.import_files.result counts

pub returns-in-Ok-clause-so_far : goal.returns-in-Ok-clause-so_far
returns-in-Ok-clause-so_far g c =
    let known = g.T.Tree.content c.args.tree.now in
    let before = g.T.Tree.failures c.args.tree.now in
    let now = g.T.Tree.failures c.import_files.new.tree in
    let is_listed : IsListed known c.args.path.now c.deref.result.now =
    rw c.deref.ensures.value
    (listed known c.args.path.now c.in-Ok.entries.items c.in_path_order-entries.result.items c.in-Ok.ensures.listing c.in-Ok.ensures.folder c.in-Ok.ensures.entries c.in_path_order-entries.ensures.same c.in_path_order-entries.ensures.ordered) in
    let asked : InTurnSoFar (IsRead known) before now c.deref.result.now = rw (sym c.in-Ok.ensures.content, sym c.in-Ok.ensures.cause) c.import_files.ensures.so_far in
    in_folder c.deref.result.now c.requires is_listed asked

pub returns-in-Err-Absent-clause-so_far : goal.returns-in-Err-Absent-clause-so_far
returns-in-Err-Absent-clause-so_far g c =
    let is = c.in-Err-Absent.field-0-is in
    without_failure (rw is at c.in-Err-Absent.ensures.cause)

pub returns-in-Err-Failed-clause-so_far : goal.returns-in-Err-Failed-clause-so_far
returns-in-Err-Failed-clause-so_far g c =
    let is = c.in-Err-Failed.field-0-is in
    refused (rw is at c.in-Err-Failed.ensures.cause)

pub returns-in-Err-Memory-clause-so_far : goal.returns-in-Err-Memory-clause-so_far
returns-in-Err-Memory-clause-so_far g c =
    let is = c.in-Err-Memory.field-0-is in
    without_failure (rw is at c.in-Err-Memory.ensures.cause)
