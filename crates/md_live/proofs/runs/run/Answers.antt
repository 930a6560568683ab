use Rattle.std.proofs.Common.{FitsSigned, w32, rules}
use Rattle.std.proofs.lemmas.Int.{to_z-of_z}
use Rattle.std.proofs.lemmas.Result.{IfOk-weaker}
use Rattle.md_live.proofs.Ends.{runs_so, headline_so, runs_cause, runs_absent, runs_complete}
use Rattle.md_live.proofs.runs.run.Goals as goal

pub returns-clause-runs : goal.returns-clause-runs
returns-clause-runs g c =
    let fits : FitsSigned w32 c.args.start.now.offset = search rules in
    let given = simp to_z-of_z at c.in_ok-givens.ensures.given in
    IfOk-weaker c.run_given.result _ _ (λ report is. runs_so _ _ _ _ _ report _ _ given is) c.run_given.ensures

pub returns-clause-headline : goal.returns-clause-headline
returns-clause-headline g c = IfOk-weaker c.run_given.result _ _ (λ report runs. headline_so _ _ _ _ _ report _ runs) (returns-clause-runs g c)

pub returns-clause-cause : goal.returns-clause-cause
returns-clause-cause g c = IfOk-weaker c.run_given.result _ _ (λ report runs. runs_cause _ _ _ _ _ report _ runs) (returns-clause-runs g c)

pub returns-clause-absent : goal.returns-clause-absent
returns-clause-absent g c = IfOk-weaker c.run_given.result _ _ (λ report runs. runs_absent _ _ _ _ _ report _ runs) (returns-clause-runs g c)

pub returns-clause-complete : goal.returns-clause-complete
returns-clause-complete g c = IfOk-weaker c.run_given.result _ _ (λ report runs. runs_complete _ _ _ _ _ report _ runs) (returns-clause-runs g c)

pub returns-in_err-givens-clause-so_far : goal.returns-in_err-givens-clause-so_far
returns-in_err-givens-clause-so_far g c =
    let fits : FitsSigned w32 c.args.start.now.offset = search rules in
    simp to_z-of_z at c.in_err-givens.ensures.so_far

pub returns-clause-so_far : goal.returns-clause-so_far
returns-clause-so_far g c =
    let fits : FitsSigned w32 c.args.start.now.offset = search rules in
    simp to_z-of_z at c.in_ok-givens.ensures.so_far
