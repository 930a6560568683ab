use Rattle.std.proofs.Common.{◌≡◌, take, string_bytes}
use Rattle.std.specs.List.{flat_map}
use Rattle.md_find.specs.Finds.{ended}
use Rattle.md_find.proofs.printing.paths_text.Given as goal

abbrev pub invariant-loop-path : goal.invariant-loop-path
invariant-loop-path l = string_bytes l.text ≡ flat_map (ended l.end) (take l.path-index l.paths)
