use Rattle.std.proofs.Common.{◌≡◌, ◌++◌, map, filter, drop}
use Rattle.serde_json.specs.View.{view}
use Rattle.imp_rules.specs.Faults.{made_of, all_given}
use Rattle.imp_json.specs.Objects.{value_of, is_given}
use Rattle.imp_json.proofs.values.values_in.Given as goal

-- the values that are there, and those that the rest gives, are those that all give
abbrev pub invariant-loop-member : goal.invariant-loop-member
invariant-loop-member l =
    made_of (λ more. l.values ++ more) (all_given (map (value_of l.offset l.name l.kind) (filter is_given (map view (drop l.member-index l.members)))))
    ≡ all_given (map (value_of l.offset l.name l.kind) (filter is_given (map view l.members)))
