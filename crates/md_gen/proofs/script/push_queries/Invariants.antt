use Rattle.std.proofs.Common.{◌≡◌, ◌++◌, take, string_bytes}
use Rattle.md_gen.specs.Scripts.{queries}
use Rattle.md_gen.proofs.script.push_queries.Given as goal

abbrev pub invariant-loop-client : goal.invariant-loop-client
invariant-loop-client l = string_bytes l.text ≡ string_bytes l.initial.text ++ queries (take l.client-index l.clients)
