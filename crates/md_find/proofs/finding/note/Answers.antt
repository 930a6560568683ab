use Rattle.std.proofs.Common.{◌≡◌, ◌+◌, [], ◌∷◌, ◌++◌, take, sym, ◌∙◌, ap}
use Rattle.std.specs.List.{cons_option, filter_map}
use Rattle.std.proofs.lemmas.List.{take_more}
use Rattle.std.proofs.lemmas.List.Elements.{filter_map-append}
use Rattle.md_files.specs.Reports.{FileReport}
use Rattle.md_find.specs.declared.testing.SeenFile.{SeenFile}
use Rattle.md_find.specs.Files.{reason_of}
use Rattle.md_find.specs.Notes.{noted_all}
use Rattle.md_find.proofs.Notes.{noted_join}
use Rattle.md_find.proofs.finding.note.Goals as goal

pub loop-file-preserved : goal.loop-file-preserved
loop-file-preserved c =
    let l = c.loop-file in
    let old = c.args.report.now in
    let files = c.args.files.now in
    let file = c.file-item.result in
    let prefix = take l.file-index files in
    let reason = cons_option (reason_of file) [] in
    let more : take (l.file-index + 1) files ≡ prefix ++ file ∷ [] =
    take_more files l.file-index file c.loop-file-test.true ∙ ap (λ (x : SeenFile). prefix ++ x ∷ []) (sym c.file-item.is) in
    c.in_ok-note_file.ensures ∙ ap (λ (r : FileReport). noted_all r reason) l.invariant ∙ noted_join old (filter_map reason_of prefix) reason
    ∙ ap (noted_all old) (sym (filter_map-append reason_of prefix (file ∷ [])) ∙ ap (filter_map reason_of) (sym more))
