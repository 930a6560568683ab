use Rattle.std.proofs.Common.{◌≡◌, List, [], ◌++◌, map, refl, sym, ◌∙◌, ap, subst, rules, string_bytes, All, append_assoc, append-nil, arith}
use Rattle.std.proofs.lemmas.Bool.{eqb-true}
use Rattle.std.proofs.lemmas.List.{nil_from_length}
use Rattle.std.specs.List.{filter_map}
use Rattle.md_value.specs.Values.{PathBytes, IsMoment}
use Rattle.md_source.specs.declared.tree.Entry.{Entry}
use Rattle.md_files.specs.FileAnswers.{IsRead, InTurnSoFar}
use Rattle.md_files.specs.Folders.{AreRead}
use Rattle.md_find.specs.declared.testing.SeenFile.{SeenFile}
use Rattle.md_find.specs.Files.{answers_of, entries_of, seen_file, hit_of, reason_of}
use Rattle.md_find.specs.Finds.{found_text}
use Rattle.md_find.specs.Notes.{noted_all}
use Rattle.md_find.proofs.Files.{moments_read}
use Rattle.md_find.proofs.Among.{found_by}
use Rattle.md_find.proofs.Gathered.{gathers_more}
use Rattle.md_find.proofs.Joins.{so_far_join, so_far_all}
use Rattle.md_find.proofs.finding.find_by.Goals as goal

pub loop-rest-init : goal.loop-rest-init
loop-rest-init g c = ([], search rules, record { answers = []; asked = refl; noted = c.new-report.ensures; found = search rules }, refl, search rules)

pub seen_files-requires-after_bounds : goal.seen_files-requires-after_bounds
seen_files-requires-after_bounds g c = λ κs bounds.
    let so = c.loop-rest.invariant in
    let files = c.in_ok-files.files.items in
    let rest = c.first_batch.result.1.now in
    let whole : so.0 ++ (entries_of files ++ rest) ≡ c.args.entries.now =
    ap (λ (batch : List Entry). so.0 ++ (batch ++ rest)) c.in_ok-files.ensures.entries ∙ ap (λ (left : List Entry). so.0 ++ left) c.first_batch.ensures.whole ∙ so.1 in
    moments_read so.0 files rest (subst (All (λ (entry : Entry). IsMoment entry.changed)) (sym whole) c.requires)

pub loop-rest-preserved : goal.loop-rest-preserved
loop-rest-preserved g c =
    let l = c.loop-rest in
    let so = l.invariant in
    let known = g.T.Tree.content c.args.tree.now in
    let was = g.T.Tree.failures c.args.tree.now in
    let between = g.T.Tree.failures l.tree in
    let now = g.T.Tree.failures c.read_files.new.tree in
    let condition = c.args.filter.now in
    let files = c.in_ok-files.files.items in
    let batch = c.first_batch.result.0.now in
    let rest = c.first_batch.result.1.now in
    let same : entries_of files ≡ batch = c.in_ok-files.ensures.entries in
    let made : c.in_ok-files-2.files.items ≡ map (seen_file condition) files = c.in_ok-files-2.ensures in
    let read : AreRead known between now (entries_of files) (answers_of files) = rw (same, sym so.3) c.in_ok-files.ensures.read in
    let noted : c.note.new.report ≡ noted_all l.report (filter_map reason_of (map (seen_file condition) files)) =
    c.in_ok-note.ensures ∙ ap (λ (made : List SeenFile). noted_all l.report (filter_map reason_of made)) (c.deref.ensures.value ∙ made) in
    let kept : c.keep.new.hits.items ≡ l.hits.items ++ filter_map hit_of (map (seen_file condition) files) =
    c.in_ok-keep.ensures ∙ ap (λ (made : List SeenFile). l.hits.items ++ filter_map hit_of made) made in (
      so.0 ++ entries_of files,
      append_assoc so.0 (entries_of files) rest ∙ ap (λ (b : List Entry). so.0 ++ (b ++ rest)) same ∙ ap (λ (left : List Entry). so.0 ++ left) c.first_batch.ensures.whole ∙ so.1,
      gathers_more known was between now condition so.0 l.report l.hits.items so.2 files c.note.new.report c.keep.new.hits.items read noted kept,
      c.in_ok-files.ensures.content ∙ so.3,
      omega (arith, so.4, c.in_ok-files.ensures.later),
    )

pub returns-clause-found : goal.returns-clause-found
returns-clause-found g c =
    let so = c.loop-rest.invariant in
    let none = nil_from_length c.loop-rest.rest.now (eqb-true _ 0 (sym c.is_empty.ensures ∙ c.loop-rest-test.false)) in
    let all : so.0 ≡ c.args.entries.now = sym (append-nil so.0) ∙ ap (λ (left : List Entry). so.0 ++ left) (sym none) ∙ so.1 in
    let text : string_bytes c.in_ok-text.text ≡ found_text c.args.output c.loop-rest.hits.items = c.in_ok-text.ensures ∙ ap (λ (paths : List PathBytes). found_text c.args.output paths) c.as_slice.ensures.value in
    let known = g.T.Tree.content c.args.tree.now in
    let was = g.T.Tree.failures c.args.tree.now in
    let now = g.T.Tree.failures c.loop-rest.tree in
    found_by known was now c.args.output c.args.entries.now c.args.filter.now c.loop-rest.report c.push_out.new.self c.loop-rest.hits.items (rw (sym all) so.2) (string_bytes c.in_ok-text.text) text
    (c.in_ok-push_out.ensures ∙ ap (λ t. record c.loop-rest.report { out = c.loop-rest.report.out ++ t }) c.as_str.ensures.value)

pub returns-in_err-files-clause-so_far : goal.returns-in_err-files-clause-so_far
returns-in_err-files-clause-so_far g c =
    let so = c.loop-rest.invariant in
    let known = g.T.Tree.content c.args.tree.now in
    let between = g.T.Tree.failures c.loop-rest.tree in
    let now = g.T.Tree.failures c.read_files.new.tree in
    let batch = c.first_batch.result.0.now in
    let read : InTurnSoFar (IsRead known) between now batch = rw (sym so.3) c.in_err-files.ensures.so_far in
    so_far_join (IsRead known) between _ now so.0 so.2.answers batch c.first_batch.result.1.now c.args.entries.now so.2.asked read
    (ap (λ (left : List Entry). so.0 ++ left) c.first_batch.ensures.whole ∙ so.1)

pub returns-in_err-files-2-clause-so_far : goal.returns-in_err-files-2-clause-so_far
returns-in_err-files-2-clause-so_far g c =
    let so = c.loop-rest.invariant in
    let known = g.T.Tree.content c.args.tree.now in
    let between = g.T.Tree.failures c.loop-rest.tree in
    let now = g.T.Tree.failures c.read_files.new.tree in
    let batch = c.first_batch.result.0.now in
    let read : InTurnSoFar (IsRead known) between now batch = rw (sym so.3) c.in_ok-files.ensures.so_far in
    so_far_join (IsRead known) between _ now so.0 so.2.answers batch c.first_batch.result.1.now c.args.entries.now so.2.asked read
    (ap (λ (left : List Entry). so.0 ++ left) c.first_batch.ensures.whole ∙ so.1)

pub returns-in_err-note-clause-so_far : goal.returns-in_err-note-clause-so_far
returns-in_err-note-clause-so_far g c =
    let so = c.loop-rest.invariant in
    let known = g.T.Tree.content c.args.tree.now in
    let between = g.T.Tree.failures c.loop-rest.tree in
    let now = g.T.Tree.failures c.read_files.new.tree in
    let batch = c.first_batch.result.0.now in
    let read : InTurnSoFar (IsRead known) between now batch = rw (sym so.3) c.in_ok-files.ensures.so_far in
    so_far_join (IsRead known) between _ now so.0 so.2.answers batch c.first_batch.result.1.now c.args.entries.now so.2.asked read
    (ap (λ (left : List Entry). so.0 ++ left) c.first_batch.ensures.whole ∙ so.1)

pub returns-in_err-keep-clause-so_far : goal.returns-in_err-keep-clause-so_far
returns-in_err-keep-clause-so_far g c =
    let so = c.loop-rest.invariant in
    let known = g.T.Tree.content c.args.tree.now in
    let between = g.T.Tree.failures c.loop-rest.tree in
    let now = g.T.Tree.failures c.read_files.new.tree in
    let batch = c.first_batch.result.0.now in
    let read : InTurnSoFar (IsRead known) between now batch = rw (sym so.3) c.in_ok-files.ensures.so_far in
    so_far_join (IsRead known) between _ now so.0 so.2.answers batch c.first_batch.result.1.now c.args.entries.now so.2.asked read
    (ap (λ (left : List Entry). so.0 ++ left) c.first_batch.ensures.whole ∙ so.1)

pub returns-in_err-text-clause-so_far : goal.returns-in_err-text-clause-so_far
returns-in_err-text-clause-so_far g c =
    let so = c.loop-rest.invariant in
    so_far_all (IsRead (g.T.Tree.content c.args.tree.now)) _ _ so.0 so.2.answers c.loop-rest.rest.now c.args.entries.now so.2.asked so.1

pub returns-in_err-push_out-clause-so_far : goal.returns-in_err-push_out-clause-so_far
returns-in_err-push_out-clause-so_far g c =
    let so = c.loop-rest.invariant in
    so_far_all (IsRead (g.T.Tree.content c.args.tree.now)) _ _ so.0 so.2.answers c.loop-rest.rest.now c.args.entries.now so.2.asked so.1

pub returns-clause-so_far : goal.returns-clause-so_far
returns-clause-so_far g c =
    let so = c.loop-rest.invariant in
    so_far_all (IsRead (g.T.Tree.content c.args.tree.now)) _ _ so.0 so.2.answers c.loop-rest.rest.now c.args.entries.now so.2.asked so.1
