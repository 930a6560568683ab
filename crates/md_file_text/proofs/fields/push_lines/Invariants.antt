use Rattle.std.proofs.Common.{◌≡◌, ◌++◌, map, take, string_bytes}
use Rattle.std.specs.List.{flat_map}
use Rattle.md_file_text.specs.Attributes.{field_line}
use Rattle.md_file_text.proofs.fields.push_lines.Given as goal

abbrev pub invariant-loop-name : goal.invariant-loop-name
invariant-loop-name l =
    string_bytes l.text ≡ string_bytes l.initial.text ++ flat_map (field_line l.attrs l.width l.marker) (map (λ name. name.now) (take l.name-index l.names))
