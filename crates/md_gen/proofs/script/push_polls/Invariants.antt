use Rattle.std.proofs.Common.{◌≡◌, ◌++◌, take, string_bytes}
use Rattle.md_gen.specs.Scripts.{polls}
use Rattle.md_gen.proofs.script.push_polls.Given as goal

abbrev pub invariant-loop-client : goal.invariant-loop-client
invariant-loop-client l = string_bytes l.text ≡ string_bytes l.initial.text ++ polls (take l.client-index l.clients)
