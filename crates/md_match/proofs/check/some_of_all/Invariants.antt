use Rattle.std.proofs.Common.{◌≡◌, drop}
use Rattle.std.specs.List.{list_any}
use Rattle.md_match.specs.Satisfies.{all_values}
use Rattle.md_match.specs.Ready.{is_met}
use Rattle.md_match.proofs.check.some_of_all.Given as goal

abbrev pub invariant-loop-place : goal.invariant-loop-place
invariant-loop-place l = list_any (is_met l.wanted) (all_values l.attrs) ≡ list_any (is_met l.wanted) (all_values (drop l.place l.attrs))
