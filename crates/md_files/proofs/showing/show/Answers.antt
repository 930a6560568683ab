use Rattle.std.proofs.Common.{◌≡◌, ◌∷◌, ◌++◌, [], ◌+◌, ◌∙◌, take, refl, subst, sym, ap, arith, rules, FitsSigned, w32}
use Rattle.std.proofs.lemmas.Int.{to_z-of_z}
use Rattle.std.proofs.lemmas.List.{take_all, take_more}
use Rattle.md_value.specs.Values.{PathBytes}
use Rattle.md_files.specs.FileAnswers.{IsAsked, Gives}
use Rattle.md_files.specs.Additions.{noted}
use Rattle.md_files.specs.Findings.Finding.{named}
use Rattle.md_files.specs.Reports.{FileReport}
use Rattle.md_files.proofs.ShownFiles.{IsShowing, showing_more, shows_so}
use Rattle.md_files.proofs.Turns.{kept_so_far, more_so_far}
use Rattle.md_files.proofs.Causes.{shows_cause, shows_absent, shows_complete}
use Rattle.md_files.proofs.showing.show.Goals as goal

pub loop-path-preserved : goal.loop-path-preserved
loop-path-preserved g c =
    let fits : FitsSigned w32 c.args.offset = search rules in
    let l = c.loop-path in
    let known = g.T.Tree.content c.args.tree.now in
    let before = g.T.Tree.failures c.args.tree.now in
    let between = g.T.Tree.failures l.tree in
    let now = g.T.Tree.failures c.ask_file.new.tree in
    let paths = c.args.files.now in
    let path = c.path-item.result in
    let given = c.in_ok-asked.asked in
    let asked = simp to_z-of_z at c.in_ok-asked.ensures.asked in
    let so = simp to_z-of_z at l.invariant.shows in
    let gives : Gives (IsAsked known between now path) c.args.offset given = rw (sym l.invariant.content) asked in
    let prefixes = take_more paths l.path-index path c.loop-path-test.true ∙ ap (λ (x : PathBytes). take l.path-index paths ++ x ∷ []) (sym c.path-item.is) in
    let more = showing_more known before c.args.offset c.args.raw c.args.marker.now c.args.names.now between now (take l.path-index paths) l.report l.some path given so gives in
    let is = c.in_ok-add_named.ensures ∙ ap (λ (r : FileReport). noted r (named path given)) c.in_ok-some.ensures.text in
    let shows : IsShowing known before now c.args.offset c.args.raw c.args.marker.now c.args.names.now (take (l.path-index + 1) paths) c.add_named.new.self c.in_ok-some.some =
    subst (λ (r : FileReport). IsShowing known before now c.args.offset c.args.raw c.args.marker.now c.args.names.now (take (l.path-index + 1) paths) r c.in_ok-some.some) (sym is)
    (rw (prefixes, c.in_ok-some.ensures.some) more) in
    record {
      content = c.in_ok-asked.ensures.content ∙ l.invariant.content;
      later = omega (arith, l.invariant.later, c.in_ok-asked.ensures.later);
      shows = simp to_z-of_z shows;
    }

pub returns-clause-cause : goal.returns-clause-cause
returns-clause-cause g c = shows_cause _ _ _ _ _ _ _ _ _ (shows_so c.loop-path.invariant.shows)

pub returns-clause-absent : goal.returns-clause-absent
returns-clause-absent g c =
    let all : take c.loop-path.path-index c.args.files.now ≡ c.args.files.now = take_all c.loop-path.path-index c.args.files.now (omega arith) in
    let shows = rw all at c.loop-path.invariant.shows in
    shows_absent _ _ _ _ _ _ c.args.files.now _ _ (shows_so shows)

pub returns-clause-complete : goal.returns-clause-complete
returns-clause-complete g c =
    let all : take c.loop-path.path-index c.args.files.now ≡ c.args.files.now = take_all c.loop-path.path-index c.args.files.now (omega arith) in
    let shows = rw all at c.loop-path.invariant.shows in
    shows_complete _ _ _ _ _ _ c.args.files.now _ _ (shows_so shows)

pub returns-in_err-asked-clause-so_far : goal.returns-in_err-asked-clause-so_far
returns-in_err-asked-clause-so_far g c =
    let l = c.loop-path in
    kept_so_far (IsAsked (g.T.Tree.content c.args.tree.now)) _ _ _ c.args.files.now l.path-index l.invariant.shows.answers l.invariant.shows.asked c.in_err-asked.ensures.kept

pub returns-in_err-some-clause-so_far : goal.returns-in_err-some-clause-so_far
returns-in_err-some-clause-so_far g c =
    let l = c.loop-path in
    let paths = c.args.files.now in
    let path = c.path-item.result in
    let next = take_more paths l.path-index path c.loop-path-test.true ∙ ap (λ (x : PathBytes). take l.path-index paths ++ x ∷ []) (sym c.path-item.is) in
    let shows = l.invariant.shows in
    let asked = c.in_ok-asked.ensures.asked in
    more_so_far (IsAsked (g.T.Tree.content c.args.tree.now)) _ _ _ paths l.path-index shows.answers path asked.answer next shows.asked (rw (sym l.invariant.content) asked.answers)

pub returns-in_err-add_named-clause-so_far : goal.returns-in_err-add_named-clause-so_far
returns-in_err-add_named-clause-so_far g c =
    let l = c.loop-path in
    let paths = c.args.files.now in
    let path = c.path-item.result in
    let next = take_more paths l.path-index path c.loop-path-test.true ∙ ap (λ (x : PathBytes). take l.path-index paths ++ x ∷ []) (sym c.path-item.is) in
    let shows = l.invariant.shows in
    let asked = c.in_ok-asked.ensures.asked in
    more_so_far (IsAsked (g.T.Tree.content c.args.tree.now)) _ _ _ paths l.path-index shows.answers path asked.answer next shows.asked (rw (sym l.invariant.content) asked.answers)

pub returns-clause-so_far : goal.returns-clause-so_far
returns-clause-so_far g c =
    let l = c.loop-path in
    kept_so_far (IsAsked (g.T.Tree.content c.args.tree.now)) _ _ _ c.args.files.now l.path-index l.invariant.shows.answers l.invariant.shows.asked refl
