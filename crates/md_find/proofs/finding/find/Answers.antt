use Rattle.std.proofs.Common.{◌≡◌, List, refl, sym, ◌∙◌, ap, rules, FitsSigned, w32, w64}
use Rattle.std.specs.Option.{option_map}
use Rattle.std.proofs.lemmas.Int.{to_z-of_z}
use Rattle.md_world.specs.declared.order.SortKey.{SortKey}
use Rattle.md_match.specs.Forms.{capped}
use Rattle.md_machine.specs.declared.Spec.{Spec}
use Rattle.md_machine.specs.Answers.{spec_of}
use Rattle.md_machine.specs.Answers.{no_batch}
use Rattle.md_files.proofs.Answering.{ok_then}
use Rattle.md_find.specs.Finds.{misdates, query_of}
use Rattle.md_find.specs.Folders.IsFolderSoFar.{without_failure}
use Rattle.md_find.proofs.Below.{finds_below}
use Rattle.md_find.proofs.Causes.{finds_cause, finds_absent, finds_complete}
use Rattle.md_find.proofs.finding.find.Goals as goal

pub returns-in-Ok-clause-finds : goal.returns-in-Ok-clause-finds
returns-in-Ok-clause-finds g c =
    let sought = c.args.search in
    let moment_fits : FitsSigned w64 sought.local.moment = search rules in
    let offset_fits : FitsSigned w32 sought.local.offset = search rules in
    let made = simp to_z-of_z at c.in-Ok.ensures.made in
    let in_range = simp to_z-of_z at c.in-Ok.ensures.in_range in
    let is : c.in-Ok.spec ≡ query_of sought = made ∙ ap (λ (order : List SortKey). spec_of sought.expr sought.local.moment sought.local.offset sought.scope order no_batch) c.by_path.ensures in
    ok_then _ _ (finds_below _ _ _ sought c.in-Ok.spec c.args.output is (ap (option_map capped) in_range)) c.find_below.result c.find_below.ensures.finds

pub returns-in-Ok-clause-cause : goal.returns-in-Ok-clause-cause
returns-in-Ok-clause-cause g c =
    ok_then _ _ (finds_cause _ _ c.args.search c.args.output _) c.find_below.result (returns-in-Ok-clause-finds g c)

pub returns-in-Ok-clause-absent : goal.returns-in-Ok-clause-absent
returns-in-Ok-clause-absent g c =
    ok_then _ _ (finds_absent _ _ c.args.search c.args.output _) c.find_below.result (returns-in-Ok-clause-finds g c)

pub returns-in-Ok-clause-complete : goal.returns-in-Ok-clause-complete
returns-in-Ok-clause-complete g c =
    ok_then _ _ (finds_complete _ _ c.args.search c.args.output _) c.find_below.result (returns-in-Ok-clause-finds g c)

pub returns-in-Err-clause-finds : goal.returns-in-Err-clause-finds
returns-in-Err-clause-finds g c =
    let sought = c.args.search in
    let moment_fits : FitsSigned w64 sought.local.moment = search rules in
    let offset_fits : FitsSigned w32 sought.local.offset = search rules in
    misdates c.in-Err.field-0.0 (simp to_z-of_z at c.in-Err.ensures.out_of_range) refl

pub returns-in-Ok-clause-so_far : goal.returns-in-Ok-clause-so_far
returns-in-Ok-clause-so_far g c =
    let scope : c.in-Ok.spec.scope ≡ c.args.search.scope = ap (λ (s : Spec). s.scope) c.in-Ok.ensures.made in
    rw (sym scope) c.find_below.ensures.so_far

pub returns-in-Err-clause-so_far : goal.returns-in-Err-clause-so_far
returns-in-Err-clause-so_far g c = without_failure refl
