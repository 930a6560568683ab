use Rattle.std.proofs.Common.{◌≡◌, drop}
use Rattle.md_live.specs.TimeForms.{out_of_range}
use Rattle.md_live.proofs.time_forms.out_of_range.Given as goal

abbrev pub invariant-loop-line : goal.invariant-loop-line
invariant-loop-line l = out_of_range l.start.moment l.start.offset l.lines ≡ out_of_range l.start.moment l.start.offset (drop l.line-index l.lines)
