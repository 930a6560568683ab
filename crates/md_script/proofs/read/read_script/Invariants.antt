use Rattle.std.proofs.Common.{◌≡◌, ◌+◌, [], length}
use Rattle.std.specs.Str.Lines.{lines}
use Rattle.md_script.proofs.SoFar.{verdict_from}
use Rattle.md_script.proofs.read.read_script.Given as goal

abbrev pub invariant-loop-rest : goal.invariant-loop-rest
invariant-loop-rest l = record {
  verdict_from : verdict_from l.lines.items (l.number + 1) l.at_ms (lines l.rest) ≡ verdict_from [] 1 0 (lines l.bytes);
  counted : l.number + length (lines l.rest) ≡ length (lines l.bytes);
}

abbrev pub decreases-loop-rest : goal.decreases-loop-rest
decreases-loop-rest l = length l.rest
