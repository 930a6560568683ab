use Rattle.std.proofs.Common.{refl, sym, ◌∙◌}
use Rattle.md_files.proofs.Turns.{none_so_far}
use Rattle.md_tool.specs.Asking.LinesAsk.{run}
use Rattle.md_tool.proofs.Ending.{ok_then, asks_misdated}
use Rattle.md_tool.proofs.live.of_lines.Goals as goal

pub returns-in-Some-clause-asks : goal.returns-in-Some-clause-asks
returns-in-Some-clause-asks g c =
    ok_then _ _ (asks_misdated c.args.start.now.moment c.args.start.now.offset c.args.lines.now _ _ c.in-Some.line c.in-Some.form (sym c.out_of_range.ensures ∙ c.in-Some.is) refl) c.line_out_of_range.result c.line_out_of_range.ensures

pub run-requires-clause-timely : goal.run-requires-clause-timely
run-requires-clause-timely g c = sym c.out_of_range.ensures ∙ c.in_default.is

pub returns-clause-asks : goal.returns-clause-asks
returns-clause-asks g c =
    rw c.of_files.ensures (run c.in_ok-made.made (sym c.out_of_range.ensures ∙ c.in_default.is) c.in_ok-made.ensures.headline c.in_ok-made.ensures.content)

pub returns-in-Some-clause-so_far : goal.returns-in-Some-clause-so_far
returns-in-Some-clause-so_far g c = none_so_far _ _ _ c.args.lines.now refl

pub returns-in_err-made-clause-so_far : goal.returns-in_err-made-clause-so_far
returns-in_err-made-clause-so_far g c = c.in_err-made.ensures.so_far

pub returns-clause-so_far : goal.returns-clause-so_far
returns-clause-so_far g c = c.in_ok-made.ensures.so_far
