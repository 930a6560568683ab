use Rattle.std.proofs.Common.{◌≡◌, ◌++◌, map, drop}
use Rattle.imp_rules.specs.Faults.{made_of, all_given}
use Rattle.imp_csv.specs.Tables.{value_of}
use Rattle.imp_csv.proofs.values.all_values.Given as goal

-- the values that are there, and those that the rest gives, are those that all give
abbrev pub invariant-loop-place : goal.invariant-loop-place
invariant-loop-place l =
    made_of (λ more. l.values.items ++ more) (all_given (map (value_of l.offset l.name l.kind) (drop l.place l.fields)))
    ≡ all_given (map (value_of l.offset l.name l.kind) l.fields)
