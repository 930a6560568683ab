use Rattle.std.proofs.Common.{refl, ◌∙◌, rules, FitsSigned, w32, w64}
use Rattle.std.proofs.lemmas.Int.{to_z-of_z}
use Rattle.md_find.specs.Folders.IsFolderSoFar.{without_failure}
use Rattle.md_tool.specs.Outside.{IsShown}
use Rattle.md_tool.proofs.Ending.{ok_then, finds_refuses, finds_unclocked, finds_searches}
use Rattle.md_tool.proofs.FindCauses.{IsGiven, found_tells}
use Rattle.md_tool.proofs.find.find.Goals as goal

pub returns-in-Err-clause-asks : goal.returns-in-Err-clause-asks
returns-in-Err-clause-asks g c =
    λ script.
    ok_then _ _ (finds_refuses c.args.offset c.args.output c.args.scope.now c.args.query _ _ c.in-Err.error c.in-Err.is refl) c.refused_text.result c.refused_text.ensures.report

pub returns-in_default-clause-asks : goal.returns-in_default-clause-asks
returns-in_default-clause-asks g c =
    λ script.
    ok_then _ _ (finds_unclocked c.args.offset c.args.output c.args.scope.now c.args.query _ _ c.in-Ok.expr c.in-Ok.is c.in_default.ensures.cause.failed refl refl) c.no_clock.result c.no_clock.ensures

pub returns-clause-asks : goal.returns-clause-asks
returns-clause-asks g c =
    let moment_fits : FitsSigned w64 c.in-Ok-now.moment = search rules in
    let offset_fits : FitsSigned w32 c.args.offset = search rules in
    let shown : IsShown (record { known = g.C.Clock.moment c.args.clock.now; failures = g.C.Clock.failures c.args.clock.now }) (record { known = g.C.Clock.moment c.now.new.self; failures = g.C.Clock.failures c.now.new.self }) c.in-Ok-now.moment =
    record { range = c.in-Ok-now.ensures.range; known = c.in-Ok-now.ensures.known; kept = c.in-Ok-now.ensures.cause.kept } in
    let found = simp (to_z-of_z, c.in_ok-copy.ensures) at c.in_ok-found.ensures.finds in
    λ script.
    ok_then _ _
    (finds_searches c.args.offset c.args.output c.args.scope.now c.args.query _ _ c.in-Ok.expr c.in-Ok-now.moment c.in_ok-found.found c.in-Ok.is shown found c.in_ok-found.ensures.content refl)
    c.of_found.result c.of_found.ensures

pub returns-clause-tells : goal.returns-clause-tells
returns-clause-tells g c =
    let moment_fits : FitsSigned w64 c.in-Ok-now.moment = search rules in
    let offset_fits : FitsSigned w32 c.args.offset = search rules in
    let shown : IsShown (record { known = g.C.Clock.moment c.args.clock.now; failures = g.C.Clock.failures c.args.clock.now }) (record { known = g.C.Clock.moment c.now.new.self; failures = g.C.Clock.failures c.now.new.self }) c.in-Ok-now.moment =
    record { range = c.in-Ok-now.ensures.range; known = c.in-Ok-now.ensures.known; kept = c.in-Ok-now.ensures.cause.kept } in
    let given : IsGiven (record { expr = c.in-Ok.expr; local = record { moment = c.in-Ok-now.moment; offset = c.args.offset }; scope = c.args.scope.now }) (record { known = g.T.Tree.content c.args.tree.now; failures = g.T.Tree.failures c.args.tree.now }) (record { known = g.T.Tree.content c.find.new.tree; failures = g.T.Tree.failures c.find.new.tree }) c.in_ok-found.found =
    record {
      cause = c.in_ok-found.ensures.cause;
      form = simp to_z-of_z at c.in_ok-found.ensures.out_of_range;
      full = simp c.in_ok-copy.ensures at c.in_ok-found.ensures.full;
      absent = simp c.in_ok-copy.ensures at c.in_ok-found.ensures.absent;
      complete = simp (to_z-of_z, c.in_ok-copy.ensures) at c.in_ok-found.ensures.complete;
    } in
    λ script zero count name mode text is.
    ok_then _ _ (λ p e. rw e (found_tells c.args.offset zero count c.args.scope.now name mode text _ _ c.in-Ok.expr c.in-Ok-now.moment (is ∙ c.in-Ok.is) shown c.in_ok-found.found given))
    c.of_found.result c.of_found.ensures

pub returns-in-Err-clause-so_far : goal.returns-in-Err-clause-so_far
returns-in-Err-clause-so_far g c = without_failure refl

pub returns-in_default-clause-so_far : goal.returns-in_default-clause-so_far
returns-in_default-clause-so_far g c = without_failure refl

pub returns-in_err-copy-clause-so_far : goal.returns-in_err-copy-clause-so_far
returns-in_err-copy-clause-so_far g c = without_failure refl

pub returns-in_err-found-clause-so_far : goal.returns-in_err-found-clause-so_far
returns-in_err-found-clause-so_far g c = simp c.in_ok-copy.ensures at c.in_err-found.ensures.so_far

pub returns-clause-so_far : goal.returns-clause-so_far
returns-clause-so_far g c = simp c.in_ok-copy.ensures at c.in_ok-found.ensures.so_far
