use Rattle.std.proofs.Common.{◌∷◌, ◌++◌, [], ◌∙◌, take, refl, sym, ap, arith, rules, FitsSigned, w32}
use Rattle.std.proofs.lemmas.Int.{to_z-of_z}
use Rattle.std.proofs.lemmas.List.{take_more}
use Rattle.md_files.proofs.Turns.{in_turn_more, kept_so_far, more_so_far}
use Rattle.md_script.specs.declared.script.Line.{Line}
use Rattle.md_live.specs.Given.{IsGiven, AreGiven}
use Rattle.md_live.proofs.given.give_all.Goals as goal

pub loop-line-preserved : goal.loop-line-preserved
loop-line-preserved g c =
    let fits : FitsSigned w32 c.args.offset = search rules in
    let l = c.loop-line in
    let offset = c.args.offset in
    let known = g.T.Tree.content c.args.tree.now in
    let before = g.T.Tree.failures c.args.tree.now in
    let between = g.T.Tree.failures l.tree in
    let now = g.T.Tree.failures c.give.new.tree in
    let lines = c.args.lines.now in
    let line = c.line-item.result in
    let given = c.in_ok-give.field-0 in
    let so : AreGiven offset known before between (take l.line-index lines) l.givens.items = simp to_z-of_z at l.invariant.given in
    let asks : IsGiven offset known between now line given = rw (sym l.invariant.content) (simp to_z-of_z at c.in_ok-give.ensures.given) in
    let prefixes = take_more lines l.line-index line c.loop-line-test.true ∙ ap (λ (x : Line). take l.line-index lines ++ x ∷ []) (sym c.line-item.is) in
    let more = in_turn_more (IsGiven offset known) before between now (take l.line-index lines) l.givens.items line given so asks in
    record {
      content = c.in_ok-give.ensures.content ∙ l.invariant.content;
      later = omega (arith, l.invariant.later, c.in_ok-give.ensures.later);
      given = simp to_z-of_z (rw (prefixes, c.in_ok-push.ensures.items) more);
    }

pub returns-in_err-give-clause-so_far : goal.returns-in_err-give-clause-so_far
returns-in_err-give-clause-so_far g c =
    let fits : FitsSigned w32 c.args.offset = search rules in
    let l = c.loop-line in
    let known = g.T.Tree.content c.args.tree.now in
    let so : AreGiven c.args.offset known (g.T.Tree.failures c.args.tree.now) (g.T.Tree.failures l.tree) (take l.line-index c.args.lines.now) l.givens.items = simp to_z-of_z at l.invariant.given in
    kept_so_far (IsGiven c.args.offset known) _ _ _ c.args.lines.now l.line-index l.givens.items so c.in_err-give.ensures.kept

pub returns-in_err-push-clause-so_far : goal.returns-in_err-push-clause-so_far
returns-in_err-push-clause-so_far g c =
    let fits : FitsSigned w32 c.args.offset = search rules in
    let l = c.loop-line in
    let known = g.T.Tree.content c.args.tree.now in
    let before = g.T.Tree.failures c.args.tree.now in
    let between = g.T.Tree.failures l.tree in
    let now = g.T.Tree.failures c.give.new.tree in
    let lines = c.args.lines.now in
    let line = c.line-item.result in
    let given = c.in_ok-give.field-0 in
    let so : AreGiven c.args.offset known before between (take l.line-index lines) l.givens.items = simp to_z-of_z at l.invariant.given in
    let asks : IsGiven c.args.offset known between now line given = rw (sym l.invariant.content) (simp to_z-of_z at c.in_ok-give.ensures.given) in
    let next = take_more lines l.line-index line c.loop-line-test.true ∙ ap (λ (x : Line). take l.line-index lines ++ x ∷ []) (sym c.line-item.is) in
    more_so_far (IsGiven c.args.offset known) before between now lines l.line-index l.givens.items line given next so asks

pub returns-clause-so_far : goal.returns-clause-so_far
returns-clause-so_far g c =
    let fits : FitsSigned w32 c.args.offset = search rules in
    let l = c.loop-line in
    let known = g.T.Tree.content c.args.tree.now in
    let so : AreGiven c.args.offset known (g.T.Tree.failures c.args.tree.now) (g.T.Tree.failures l.tree) (take l.line-index c.args.lines.now) l.givens.items = simp to_z-of_z at l.invariant.given in
    kept_so_far (IsGiven c.args.offset known) _ _ _ c.args.lines.now l.line-index l.givens.items so refl
