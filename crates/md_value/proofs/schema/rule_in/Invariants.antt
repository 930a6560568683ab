use Rattle.std.proofs.Common.{◌≡◌, length, map}
use Rattle.md_value.specs.Schema.{rule_in}
use Rattle.md_value.proofs.schema.rule_in.Given as goal

abbrev pub invariant-loop-table : goal.invariant-loop-table
invariant-loop-table l = rule_in (map (λ a. (a.0.now, a.1)) l.table) l.name ≡ rule_in (map (λ a. (a.0.now, a.1)) l.initial.table) l.name

abbrev pub decreases-loop-table : goal.decreases-loop-table
decreases-loop-table l = length l.table
