use Rattle.std.proofs.Common.{◌≡◌, ◌++◌, ◌-◌, length, string_bytes}
use Rattle.md_gen.specs.Scripts.{steps}
use Rattle.md_gen.proofs.script.push_steps.Given as goal

abbrev pub invariant-loop-i : goal.invariant-loop-i
invariant-loop-i l = string_bytes l.text ++ steps l.files l.draws.state l.i (length l.files - l.i) ≡ string_bytes l.initial.text ++ steps l.files l.initial.draws.state l.first (length l.files - l.first)
