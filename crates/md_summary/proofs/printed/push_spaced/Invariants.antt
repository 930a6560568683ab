use Rattle.std.proofs.Common.{◌≡◌, ◌++◌, take, string_bytes}
use Rattle.md_summary.specs.Printed.{spaced}
use Rattle.md_summary.proofs.printed.push_spaced.Given as goal

abbrev pub invariant-loop-number : goal.invariant-loop-number
invariant-loop-number l = string_bytes l.text ≡ string_bytes l.initial.text ++ spaced (take l.number-index l.numbers)
