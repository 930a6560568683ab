use Rattle.std.proofs.Common.{◌≡◌, ◌∷◌, [], ◌++◌, true, map, take, string_bytes}
use Rattle.std.specs.List.{flat_map}
use Rattle.md_file_text.specs.Attributes.{field_text}
use Rattle.md_file_text.proofs.fields.push_raw.Given as goal

abbrev pub invariant-loop-name : goal.invariant-loop-name
invariant-loop-name l =
    string_bytes l.text
    ≡ string_bytes l.initial.text ++ flat_map (λ name. (0 ∷ []) ++ field_text l.attrs true l.marker name) (map (λ name. name.now) (take l.name-index l.rest))
