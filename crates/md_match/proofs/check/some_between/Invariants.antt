use Rattle.std.proofs.Common.{◌≡◌, ◌&&◌, drop}
use Rattle.std.specs.List.{list_any}
use Rattle.md_match.specs.Ready.{is_met}
use Rattle.md_match.proofs.check.some_between.Given as goal

abbrev pub invariant-loop-value : goal.invariant-loop-value
invariant-loop-value l = list_any (λ v. is_met l.least v && is_met l.greatest v) l.values ≡ list_any (λ v. is_met l.least v && is_met l.greatest v) (drop l.value-index l.values)
