use Rattle.std.proofs.Common.{All}
use Rattle.md_value.specs.Values.{IsInRange}
use Rattle.md_rows.proofs.notation.values_of.Given as goal

abbrev pub invariant-loop-word : goal.invariant-loop-word
invariant-loop-word l = All IsInRange l.values.items
