use Rattle.std.proofs.Common.{◌≡◌, false, length}
use Rattle.md_script.specs.Escapes.{unescaped_after}
use Rattle.md_script.proofs.Unescaping.{prepended}
use Rattle.md_script.proofs.escapes.unescaped.Given as goal

abbrev pub invariant-loop-byte : goal.invariant-loop-byte
invariant-loop-byte l = prepended l.bytes.items (unescaped_after l.escaping l.rest) ≡ unescaped_after false l.fn.text

abbrev pub decreases-loop-byte : goal.decreases-loop-byte
decreases-loop-byte l = length l.rest
