use Rattle.std.proofs.Common.{◌≡◌, drop}
use Rattle.std.specs.List.{list_all, list_any}
use Rattle.md_match.specs.Ready.{is_satisfied}
use Rattle.md_match.proofs.ready.+tested.Given as goal

abbrev pub invariant-all_satisfied-loop-ready : goal.invariant-all_satisfied-loop-ready
invariant-all_satisfied-loop-ready l = list_all (λ r. is_satisfied r l.attrs) l.list ≡ list_all (λ r. is_satisfied r l.attrs) (drop l.ready-index l.list)

abbrev pub invariant-some_satisfied-loop-ready : goal.invariant-some_satisfied-loop-ready
invariant-some_satisfied-loop-ready l = list_any (λ r. is_satisfied r l.attrs) l.list ≡ list_any (λ r. is_satisfied r l.attrs) (drop l.ready-index l.list)
