use Rattle.std.proofs.Common.{◌≡◌, List, map, take}
use Rattle.md_value.specs.Attrs.{Attr}
use Rattle.md_match.specs.Satisfies.{satisfies}
use Rattle.md_match.specs.Ready.{is_satisfied}
use Rattle.md_match.proofs.ready.+made.Given as goal

abbrev pub invariant-all_of-loop-e : goal.invariant-all_of-loop-e
invariant-all_of-loop-e l = (attrs : List Attr) → map (λ r. is_satisfied r attrs) l.all ≡ map (λ e. satisfies l.local.moment l.local.offset e attrs) (take l.e-index l.list)
