use Rattle.std.proofs.Common.{◌≡◌, ◌+◌, [], ◌∷◌, ◌++◌, take, refl, sym, ◌∙◌, ap, arith}
use Rattle.std.proofs.lemmas.List.{map-append, take_more}
use Rattle.md_source.specs.declared.tree.Entry.{Entry}
use Rattle.md_files.specs.FileAnswers.{IsRead}
use Rattle.md_files.specs.Folders.{AreRead}
use Rattle.md_files.proofs.Turns.{in_turn_more, kept_so_far, more_so_far}
use Rattle.md_find.specs.declared.reading.ReadFile.{ReadFile}
use Rattle.md_find.specs.Files.{prefix_answer, answer_of, answers_of, entries_of}
use Rattle.md_find.proofs.reading.read_files.Goals as goal

pub loop-entry-preserved : goal.loop-entry-preserved
loop-entry-preserved g c =
    let l = c.loop-entry in
    let before = l.invariant in
    let entries = c.args.entries.now in
    let entry = c.entry-item.result in
    let prefix = c.in_ok-prefix.prefix in
    let file : ReadFile = record { entry = entry; prefix = prefix } in
    let known = g.T.Tree.content c.args.tree.now in
    let was = g.T.Tree.failures c.args.tree.now in
    let between = g.T.Tree.failures l.tree in
    let now = g.T.Tree.failures c.read_file.new.tree in
    let pushed : c.push.new.self.items ≡ l.files.items ++ file ∷ [] = rw (sym c.in_ok-entry.ensures) c.in_ok-push.ensures.items in
    let more : take (l.entry-index + 1) entries ≡ take l.entry-index entries ++ entry ∷ [] =
    take_more entries l.entry-index entry c.loop-entry-test.true ∙ ap (λ (x : Entry). take l.entry-index entries ++ x ∷ []) (sym c.entry-item.is) in
    let read : IsRead known between now entry (prefix_answer entry prefix) = rw (sym before.content) c.in_ok-prefix.ensures.read in
    let answers : answers_of c.push.new.self.items ≡ answers_of l.files.items ++ prefix_answer entry prefix ∷ [] = ap answers_of pushed ∙ map-append answer_of l.files.items (file ∷ []) in
    let all : AreRead known was now (take (l.entry-index + 1) entries) (answers_of c.push.new.self.items) =
    rw (more, answers) (in_turn_more (IsRead known) was between now (take l.entry-index entries) (answers_of l.files.items) entry (prefix_answer entry prefix) before.read read) in
    record {
      entries = ap entries_of pushed ∙ map-append (λ (f : ReadFile). f.entry) l.files.items (file ∷ []) ∙ ap (λ entries. entries ++ entry ∷ []) before.entries ∙ sym more;
      read = all;
      content = c.in_ok-prefix.ensures.content ∙ before.content;
      later = omega (arith, before.later, c.in_ok-prefix.ensures.later);
    }

pub returns-in_err-prefix-clause-so_far : goal.returns-in_err-prefix-clause-so_far
returns-in_err-prefix-clause-so_far g c =
    let l = c.loop-entry in
    kept_so_far (IsRead (g.T.Tree.content c.args.tree.now)) _ _ _ c.args.entries.now l.entry-index (answers_of l.files.items) l.invariant.read c.in_err-prefix.ensures.kept

pub returns-in_err-entry-clause-so_far : goal.returns-in_err-entry-clause-so_far
returns-in_err-entry-clause-so_far g c =
    let l = c.loop-entry in
    let entries = c.args.entries.now in
    let entry = c.entry-item.result in
    let next = take_more entries l.entry-index entry c.loop-entry-test.true ∙ ap (λ (x : Entry). take l.entry-index entries ++ x ∷ []) (sym c.entry-item.is) in
    more_so_far (IsRead (g.T.Tree.content c.args.tree.now)) _ _ _ entries l.entry-index (answers_of l.files.items) entry (prefix_answer entry c.in_ok-prefix.prefix) next l.invariant.read
    (rw (sym l.invariant.content) c.in_ok-prefix.ensures.read)

pub returns-in_err-push-clause-so_far : goal.returns-in_err-push-clause-so_far
returns-in_err-push-clause-so_far g c =
    let l = c.loop-entry in
    let entries = c.args.entries.now in
    let entry = c.entry-item.result in
    let next = take_more entries l.entry-index entry c.loop-entry-test.true ∙ ap (λ (x : Entry). take l.entry-index entries ++ x ∷ []) (sym c.entry-item.is) in
    more_so_far (IsRead (g.T.Tree.content c.args.tree.now)) _ _ _ entries l.entry-index (answers_of l.files.items) entry (prefix_answer entry c.in_ok-prefix.prefix) next l.invariant.read
    (rw (sym l.invariant.content) c.in_ok-prefix.ensures.read)

pub returns-clause-so_far : goal.returns-clause-so_far
returns-clause-so_far g c =
    let l = c.loop-entry in
    kept_so_far (IsRead (g.T.Tree.content c.args.tree.now)) _ _ _ c.args.entries.now l.entry-index (answers_of l.files.items) l.invariant.read refl
