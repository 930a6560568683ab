use Rattle.std.proofs.Common.{◌≡◌, ◌++◌, codes, take, string_bytes}
use Rattle.std.specs.List.{flat_map}
use Rattle.md_file_text.specs.Attributes.{value_text}
use Rattle.md_file_text.proofs.values.push_joined.Given as goal

abbrev pub invariant-loop-value : goal.invariant-loop-value
invariant-loop-value l = string_bytes l.text ≡ string_bytes l.initial.text ++ flat_map (λ value. codes ",\n    " ++ value_text value) (take l.value-index l.rest)
