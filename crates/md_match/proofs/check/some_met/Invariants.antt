use Rattle.std.proofs.Common.{◌≡◌, drop}
use Rattle.std.specs.List.{list_any}
use Rattle.md_match.specs.Ready.{is_met}
use Rattle.md_match.proofs.check.some_met.Given as goal

abbrev pub invariant-loop-value : goal.invariant-loop-value
invariant-loop-value l = list_any (is_met l.wanted) l.values ≡ list_any (is_met l.wanted) (drop l.value-index l.values)
