use Rattle.std.proofs.Common.{◌≡◌, map, take}
use Rattle.md_value.specs.Attrs.{without_name, text_content}
use Rattle.md_file_text.proofs.attributes.all_names.Given as goal

abbrev pub invariant-loop-place : goal.invariant-loop-place
invariant-loop-place l = map (λ name. name.now) l.found.items ≡ map (λ attr. attr.0) (without_name text_content (take l.place l.attrs))
