-- The attributes that a plain text gives.
use Rattle.std.specs.Prelude.{ℕ, List, [], Result, Ok}
use Rattle.md_value.specs.Attrs.{Attr}
use Rattle.md_value.specs.declared.fault.Fault.{Fault}
use Rattle.imp_rules.specs.Files.{with_content}

-- its text content, and never a fault
abbrev pub text_attributes : List ℕ → Result (List Attr) Fault
text_attributes text = Ok (with_content text [])
