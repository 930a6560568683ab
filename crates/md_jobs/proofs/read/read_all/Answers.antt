use Rattle.std.proofs.Common.{◌∷◌, ◌++◌, [], ◌∙◌, take, refl, sym, ap, arith}
use Rattle.std.proofs.lemmas.List.{take_more}
use Rattle.md_files.proofs.Turns.{kept_so_far, more_so_far}
use Rattle.md_script.specs.declared.script.Line.{Line}
use Rattle.md_live.specs.Given.{IsGiven}
use Rattle.md_jobs.specs.Reading.{Makes}
use Rattle.md_jobs.proofs.Reading.{reads_more, kept_few}
use Rattle.md_jobs.proofs.read.read_all.Goals as goal

pub loop-line-preserved : goal.loop-line-preserved
loop-line-preserved g c =
    let l = c.loop-line in
    let known = g.T.Tree.content c.args.tree.now in
    let before = g.T.Tree.failures c.args.tree.now in
    let between = g.T.Tree.failures l.tree in
    let now = g.T.Tree.failures c.read_job.new.tree in
    let lines = c.args.lines.now in
    let line = c.line-item.result in
    let made = c.in_ok-made.made in
    let makes : Makes known between now c.args.start.now.moment c.args.start.now.offset line made = rw (sym l.invariant.content) c.in_ok-made.ensures.made in
    let prefixes = take_more lines l.line-index line c.loop-line-test.true ∙ ap (λ (x : Line). take l.line-index lines ++ x ∷ []) (sym c.line-item.is) in
    let more = reads_more known before between now c.args.start.now.moment c.args.start.now.offset (take l.line-index lines) l.jobs.items line made l.invariant.so makes in
    record {
      content = c.in_ok-made.ensures.content ∙ l.invariant.content;
      later = omega (arith, l.invariant.later, c.in_ok-made.ensures.later);
      few = kept_few l.jobs.items made _ l.line-index l.invariant.few c.in_ok-keep.ensures;
      so = rw (prefixes, c.in_ok-keep.ensures) more;
    }

pub returns-in_err-made-clause-so_far : goal.returns-in_err-made-clause-so_far
returns-in_err-made-clause-so_far g c =
    let l = c.loop-line in
    let known = g.T.Tree.content c.args.tree.now in
    kept_so_far (IsGiven c.args.start.now.offset known) _ _ _ c.args.lines.now l.line-index l.invariant.so.givens l.invariant.so.given c.in_err-made.ensures.kept

pub returns-in_err-keep-clause-so_far : goal.returns-in_err-keep-clause-so_far
returns-in_err-keep-clause-so_far g c =
    let l = c.loop-line in
    let known = g.T.Tree.content c.args.tree.now in
    let before = g.T.Tree.failures c.args.tree.now in
    let between = g.T.Tree.failures l.tree in
    let now = g.T.Tree.failures c.read_job.new.tree in
    let lines = c.args.lines.now in
    let line = c.line-item.result in
    let made = c.in_ok-made.made in
    let makes : Makes known between now c.args.start.now.moment c.args.start.now.offset line made = rw (sym l.invariant.content) c.in_ok-made.ensures.made in
    let next = take_more lines l.line-index line c.loop-line-test.true ∙ ap (λ (x : Line). take l.line-index lines ++ x ∷ []) (sym c.line-item.is) in
    more_so_far (IsGiven c.args.start.now.offset known) before between now lines l.line-index l.invariant.so.givens line makes.given next l.invariant.so.given makes.is_given

pub returns-clause-so_far : goal.returns-clause-so_far
returns-clause-so_far g c =
    let l = c.loop-line in
    let known = g.T.Tree.content c.args.tree.now in
    kept_so_far (IsGiven c.args.start.now.offset known) _ _ _ c.args.lines.now l.line-index l.invariant.so.givens l.invariant.so.given refl
