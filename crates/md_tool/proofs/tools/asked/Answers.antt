use Rattle.std.proofs.Common.{inl, inr, sym, rules, FitsSigned, w32}
use Rattle.std.proofs.lemmas.Int.{to_z-of_z}
use Rattle.md_tool.specs.Outside.{Bytes, Shown}
use Rattle.md_tool.proofs.Ending.{ok_then, err_then, live_asks, live_tells_first, live_so_far}
use Rattle.md_tool.proofs.tools.asked.Goals as goal

pub returns-in-Show-clause-asks : goal.returns-in-Show-clause-asks
returns-in-Show-clause-asks g c =
    let fits : FitsSigned w32 c.args.command.now.offset = search rules in
    let script : Bytes = record { known = g.S.Source.left c.args.script.now; failures = g.S.Source.failures c.args.script.now } in
    let clock : Shown = record { known = g.C.Clock.moment c.args.clock.now; failures = g.C.Clock.failures c.args.clock.now } in
    ok_then _ _ (λ report of. rw c.in-Show.is (simp (to_z-of_z, c.as_str.ensures, c.as_slice.ensures, c.as_slice-in-Show.ensures) at of)) c.show.result (c.show.ensures.asks script clock)

pub returns-in-Show-clause-tells : goal.returns-in-Show-clause-tells
returns-in-Show-clause-tells g c =
    let fits : FitsSigned w32 c.args.command.now.offset = search rules in
    let script : Bytes = record { known = g.S.Source.left c.args.script.now; failures = g.S.Source.failures c.args.script.now } in
    let clock : Shown = record { known = g.C.Clock.moment c.args.clock.now; failures = g.C.Clock.failures c.args.clock.now } in
    ok_then _ _ (λ report of. rw c.in-Show.is (simp (to_z-of_z, c.as_str.ensures, c.as_slice.ensures, c.as_slice-in-Show.ensures) at of)) c.show.result (c.show.ensures.tells script clock)

pub returns-in-Import-clause-asks : goal.returns-in-Import-clause-asks
returns-in-Import-clause-asks g c =
    let fits : FitsSigned w32 c.args.command.now.offset = search rules in
    let script : Bytes = record { known = g.S.Source.left c.args.script.now; failures = g.S.Source.failures c.args.script.now } in
    let clock : Shown = record { known = g.C.Clock.moment c.args.clock.now; failures = g.C.Clock.failures c.args.clock.now } in
    ok_then _ _ (λ report of. rw c.in-Import.is (simp (to_z-of_z, c.as_slice-in-Import.ensures) at of)) c.import.result (c.import.ensures.asks script clock)

pub returns-in-Import-clause-tells : goal.returns-in-Import-clause-tells
returns-in-Import-clause-tells g c =
    let fits : FitsSigned w32 c.args.command.now.offset = search rules in
    let script : Bytes = record { known = g.S.Source.left c.args.script.now; failures = g.S.Source.failures c.args.script.now } in
    let clock : Shown = record { known = g.C.Clock.moment c.args.clock.now; failures = g.C.Clock.failures c.args.clock.now } in
    ok_then _ _ (λ report of. rw c.in-Import.is (simp (to_z-of_z, c.as_slice-in-Import.ensures) at of)) c.import.result (c.import.ensures.tells script clock)

pub returns-in-Live-None-clause-asks : goal.returns-in-Live-None-clause-asks
returns-in-Live-None-clause-asks g c =
    let fits : FitsSigned w32 c.args.command.now.offset = search rules in
    ok_then _ _ (λ report of. live_asks _ _ _ _ _ c.in-Live-None.is (search rules) report (simp to_z-of_z at of)) c.live.result c.live.ensures.asks

pub returns-in-Live-None-clause-tells : goal.returns-in-Live-None-clause-tells
returns-in-Live-None-clause-tells g c =
    let fits : FitsSigned w32 c.args.command.now.offset = search rules in
    ok_then _ _ (λ report of. live_tells_first _ _ _ _ _ c.in-Live-None.is (search rules) report.status (simp to_z-of_z at of)) c.live.result c.live.ensures.tells

pub returns-in-Find-clause-asks : goal.returns-in-Find-clause-asks
returns-in-Find-clause-asks g c =
    let fits : FitsSigned w32 c.args.command.now.offset = search rules in
    let script : Bytes = record { known = g.S.Source.left c.args.script.now; failures = g.S.Source.failures c.args.script.now } in
    elim c.search-query.ensures.answer [
      | inl is ↦
          ok_then _ _ (λ report of. rw c.in-Find.is (simp (to_z-of_z, is, c.text_of.ensures, c.text_of-in-Find.ensures, c.output_of-output.ensures) at of)) c.find.result (c.find.ensures.asks script)
      | inr want ↦ err_then _ c.find.result (c.find.ensures.memory want)
    ]

pub returns-in-Find-clause-tells : goal.returns-in-Find-clause-tells
returns-in-Find-clause-tells g c =
    let fits : FitsSigned w32 c.args.command.now.offset = search rules in
    let script : Bytes = record { known = g.S.Source.left c.args.script.now; failures = g.S.Source.failures c.args.script.now } in
    elim c.search-query.ensures.answer [
      | inl is ↦
          let read = simp (c.text_of.ensures, c.text_of-in-Find.ensures) at (sym is) in
          ok_then _ _ (λ report of. rw c.in-Find.is (simp to_z-of_z at of)) c.find.result
          (c.find.ensures.tells script c.in-Find.zero c.in-Find.count c.in-Find.name c.in-Find.mode c.in-Find.text read)
      | inr want ↦ err_then _ c.find.result (c.find.ensures.memory want)
    ]

pub returns-in-Show-clause-so_far : goal.returns-in-Show-clause-so_far
returns-in-Show-clause-so_far g c = rw c.in-Show.is (simp c.as_slice-in-Show.ensures at c.show.ensures.so_far)

pub returns-in-Import-clause-so_far : goal.returns-in-Import-clause-so_far
returns-in-Import-clause-so_far g c = rw c.in-Import.is (simp c.as_slice-in-Import.ensures at c.import.ensures.so_far)

pub returns-in-Live-None-clause-so_far : goal.returns-in-Live-None-clause-so_far
returns-in-Live-None-clause-so_far g c =
    let fits : FitsSigned w32 c.args.command.now.offset = search rules in
    live_so_far _ _ _ _ _ c.in-Live-None.is (simp to_z-of_z at c.live.ensures.so_far)

pub returns-in-Find-clause-so_far : goal.returns-in-Find-clause-so_far
returns-in-Find-clause-so_far g c = rw c.in-Find.is c.find.ensures.so_far
