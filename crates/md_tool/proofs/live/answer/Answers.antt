use Rattle.std.proofs.Common.{◌≡◌, ◌∙◌, Ok, inl, inr, sym, ap, refl, rules, FitsSigned, w32, w64, List}
use Rattle.std.proofs.lemmas.Int.{to_z-of_z}
use Rattle.md_script.specs.declared.script.Line.{Line}
use Rattle.md_script.specs.Scripts.{verdict}
use Rattle.md_tool.specs.Outside.{IsShown}
use Rattle.md_tool.proofs.Ending.{ok_then, err_then, answers_refuses, answers_unclocked, answers_runs}
use Rattle.md_live.proofs.Scripts.{few_lines}
use Rattle.md_tool.proofs.live.answer.Goals as goal

pub returns-in-Err-clause-asks : goal.returns-in-Err-clause-asks
returns-in-Err-clause-asks g c =
    elim c.in-Err.ensures.refused [
      | inl v ↦ ok_then _ _ (answers_refuses c.args.offset c.args.bytes.now _ _ _ _ c.in-Err.error v refl refl) c.refused_script.result c.refused_script.ensures.report
      | inr want ↦ err_then _ c.refused_script.result (c.refused_script.ensures.memory want)
    ]

pub of_lines-requires-clause-few : goal.of_lines-requires-clause-few
of_lines-requires-clause-few g c = rw c.lines.ensures (few_lines c.args.bytes.now c.in-Ok.script c.in-Ok.ensures.ok)

pub returns-in-Ok-now-clause-asks : goal.returns-in-Ok-now-clause-asks
returns-in-Ok-now-clause-asks g c =
    let moment_fits : FitsSigned w64 c.in-Ok-now.moment = search rules in
    let offset_fits : FitsSigned w32 c.args.offset = search rules in
    let read : verdict c.args.bytes.now ≡ Ok c.lines.result.now = c.in-Ok.ensures.ok ∙ ap (λ (lines : List Line). Ok lines) (sym c.lines.ensures) in
    let shown : IsShown (record { known = g.C.Clock.moment c.args.clock.now; failures = g.C.Clock.failures c.args.clock.now }) (record { known = g.C.Clock.moment c.now.new.self; failures = g.C.Clock.failures c.now.new.self }) c.in-Ok-now.moment =
    record { range = c.in-Ok-now.ensures.range; known = c.in-Ok-now.ensures.known; kept = c.in-Ok-now.ensures.cause.kept } in
    let made = simp to_z-of_z at c.of_lines.ensures.asks in
    ok_then _ _ (answers_runs c.args.offset c.args.bytes.now _ _ _ _ c.lines.result.now c.in-Ok-now.moment read shown) c.of_lines.result made

pub returns-clause-asks : goal.returns-clause-asks
returns-clause-asks g c = ok_then _ _ (answers_unclocked c.args.offset c.args.bytes.now _ _ _ _ c.in-Ok.script c.in-Ok.ensures.ok c.in-Err-now.ensures.cause.failed refl) c.no_clock.result c.no_clock.ensures

pub returns-in-Err-clause-so_far : goal.returns-in-Err-clause-so_far
returns-in-Err-clause-so_far g c = inl refl

pub returns-in-Ok-now-clause-so_far : goal.returns-in-Ok-now-clause-so_far
returns-in-Ok-now-clause-so_far g c =
    let offset_fits : FitsSigned w32 c.args.offset = search rules in
    let read : verdict c.args.bytes.now ≡ Ok c.lines.result.now = c.in-Ok.ensures.ok ∙ ap (λ (lines : List Line). Ok lines) (sym c.lines.ensures) in
    inr (c.lines.result.now, read, simp to_z-of_z at c.of_lines.ensures.so_far)

pub returns-clause-so_far : goal.returns-clause-so_far
returns-clause-so_far g c = inl refl
