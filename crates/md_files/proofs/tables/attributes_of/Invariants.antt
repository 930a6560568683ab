use Rattle.std.proofs.Common.{◌≡◌, map, take, string_bytes}
use Rattle.std.specs.List.{flat_map}
use Rattle.md_files.specs.Tables.{attribute_line}
use Rattle.md_files.proofs.tables.attributes_of.Given as goal

abbrev pub invariant-loop-name : goal.invariant-loop-name
invariant-loop-name l = string_bytes l.text ≡ flat_map attribute_line (map (λ a. (a.0.now, a.1)) (take l.name-index l.table))
