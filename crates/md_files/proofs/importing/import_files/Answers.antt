use Rattle.std.proofs.Common.{◌∷◌, ◌++◌, [], ◌+◌, ◌∙◌, take, refl, subst, sym, ap, arith, rules, FitsSigned, w32}
use Rattle.std.proofs.lemmas.Int.{to_z-of_z}
use Rattle.std.proofs.lemmas.List.{take_more}
use Rattle.md_source.specs.declared.tree.Entry.{Entry}
use Rattle.md_files.specs.FileAnswers.{IsRead, Gives}
use Rattle.md_files.specs.Additions.{CountsFiles, noted}
use Rattle.md_files.specs.Findings.Finding.{listed}
use Rattle.md_files.specs.Reports.{FileReport}
use Rattle.md_files.proofs.CountedFiles.{files_more}
use Rattle.md_files.proofs.Turns.{kept_so_far, more_so_far}
use Rattle.md_files.proofs.importing.import_files.Goals as goal

pub loop-entry-preserved : goal.loop-entry-preserved
loop-entry-preserved g c =
    let fits : FitsSigned w32 c.args.offset = search rules in
    let l = c.loop-entry in
    let known = g.T.Tree.content c.args.tree.now in
    let before = g.T.Tree.failures c.args.tree.now in
    let between = g.T.Tree.failures l.tree in
    let now = g.T.Tree.failures c.read_file.new.tree in
    let entries = c.args.entries.now in
    let entry = c.entry-item.result in
    let given = c.in_ok-asked.asked in
    let asked = simp to_z-of_z at c.in_ok-asked.ensures.asked in
    let so = simp to_z-of_z at l.invariant.counts in
    let gives : Gives (IsRead known between now entry) c.args.offset given = rw (sym l.invariant.content) asked in
    let prefixes = take_more entries l.entry-index entry c.loop-entry-test.true ∙ ap (λ (x : Entry). take l.entry-index entries ++ x ∷ []) (sym c.entry-item.is) in
    let more = files_more known before c.args.offset between now (take l.entry-index entries) c.args.report.now l.report entry given so gives in
    let is = c.in_ok-add_listed.ensures ∙ ap (λ (r : FileReport). noted r (listed entry.path given)) c.in_ok-push_count.ensures in
    let counts : CountsFiles known before now c.args.offset (take (l.entry-index + 1) entries) c.args.report.now c.add_listed.new.self =
    subst (λ (r : FileReport). CountsFiles known before now c.args.offset (take (l.entry-index + 1) entries) c.args.report.now r) (sym is)
    (rw prefixes more) in
    record {
      content = c.in_ok-asked.ensures.content ∙ l.invariant.content;
      later = omega (arith, l.invariant.later, c.in_ok-asked.ensures.later);
      counts = simp to_z-of_z counts;
    }

pub returns-in_err-asked-clause-so_far : goal.returns-in_err-asked-clause-so_far
returns-in_err-asked-clause-so_far g c =
    let l = c.loop-entry in
    kept_so_far (IsRead (g.T.Tree.content c.args.tree.now)) _ _ _ c.args.entries.now l.entry-index l.invariant.counts.answers l.invariant.counts.asked c.in_err-asked.ensures.kept

pub returns-in_err-push_count-clause-so_far : goal.returns-in_err-push_count-clause-so_far
returns-in_err-push_count-clause-so_far g c =
    let l = c.loop-entry in
    let entries = c.args.entries.now in
    let entry = c.entry-item.result in
    let next = take_more entries l.entry-index entry c.loop-entry-test.true ∙ ap (λ (x : Entry). take l.entry-index entries ++ x ∷ []) (sym c.entry-item.is) in
    let counts = l.invariant.counts in
    let asked = c.in_ok-asked.ensures.asked in
    more_so_far (IsRead (g.T.Tree.content c.args.tree.now)) _ _ _ entries l.entry-index counts.answers entry asked.answer next counts.asked (rw (sym l.invariant.content) asked.answers)

pub returns-in_err-add_listed-clause-so_far : goal.returns-in_err-add_listed-clause-so_far
returns-in_err-add_listed-clause-so_far g c =
    let l = c.loop-entry in
    let entries = c.args.entries.now in
    let entry = c.entry-item.result in
    let next = take_more entries l.entry-index entry c.loop-entry-test.true ∙ ap (λ (x : Entry). take l.entry-index entries ++ x ∷ []) (sym c.entry-item.is) in
    let counts = l.invariant.counts in
    let asked = c.in_ok-asked.ensures.asked in
    more_so_far (IsRead (g.T.Tree.content c.args.tree.now)) _ _ _ entries l.entry-index counts.answers entry asked.answer next counts.asked (rw (sym l.invariant.content) asked.answers)

pub returns-clause-so_far : goal.returns-clause-so_far
returns-clause-so_far g c =
    let l = c.loop-entry in
    kept_so_far (IsRead (g.T.Tree.content c.args.tree.now)) _ _ _ c.args.entries.now l.entry-index l.invariant.counts.answers l.invariant.counts.asked refl
