-- The kind of a file, by the ending of its name.
use Rattle.std.specs.Prelude.{ℕ, ◌-◌, Bool, ◌&&◌, nat_le, List, [], ◌∷◌, length, drop, map, codes, bytes_eq, true, false, if◌then◌else◌}
use Rattle.std.specs.Char.{to_ascii_lowercase}
use Rattle.std.specs.List.{after_last}
use Rattle.md_value.specs.Path.{is_slash}
use Rattle.md_value.specs.Values.{PathBytes}
use Rattle.imp_kind.specs.declared.kind.FileKind.{FileKind}
use Rattle.imp_kind.specs.declared.kind.FileKind.TheVariants as kind

-- what the names of a kind's files end in; no ending is of `Other` alone
abbrev pub ending : FileKind → List ℕ
ending kind.Plain = codes ".txt"
ending kind.Json = codes ".json"
ending kind.Csv = codes ".csv"
ending kind.Other = []

-- the last component of a path
abbrev pub file_name : PathBytes → List ℕ
file_name path = after_last is_slash path

-- the bytes with small ASCII letters for capital ones
abbrev pub lowercase : List ℕ → List ℕ
lowercase bytes = map to_ascii_lowercase bytes

-- whether a name has this ending, with ASCII case ignored
unfoldable pub has_ending : List ℕ → List ℕ → Bool
has_ending ending name = nat_le (length ending) (length name) && bytes_eq (lowercase (drop (length name - length ending) name)) (lowercase ending)

abbrev pub kind_of_name : List ℕ → FileKind
kind_of_name name =
    if has_ending (ending kind.Plain) name then kind.Plain
    else if has_ending (ending kind.Json) name then kind.Json
    else if has_ending (ending kind.Csv) name then kind.Csv
    else kind.Other

abbrev pub kind_of : PathBytes → FileKind
kind_of path = kind_of_name (file_name path)

-- the content type, one of Apple's uniform type identifiers
abbrev pub content_type : FileKind → List ℕ
content_type kind.Plain = codes "public.plain-text"
content_type kind.Json = codes "public.json"
content_type kind.Csv = codes "public.comma-separated-values-text"
content_type kind.Other = codes "public.data"

-- the content type, and then the types that it conforms to
abbrev pub content_types : FileKind → List (List ℕ)
content_types kind.Other = codes "public.data" ∷ codes "public.item" ∷ []
content_types k = content_type k ∷ codes "public.text" ∷ codes "public.data" ∷ codes "public.item" ∷ codes "public.content" ∷ []

-- the kind in words
abbrev pub kind_words : FileKind → List ℕ
kind_words kind.Plain = codes "Plain Text Document"
kind_words kind.Json = codes "JSON Document"
kind_words kind.Csv = codes "Comma-Separated Values Document"
kind_words kind.Other = codes "Document"

-- whether an importer reads the content
abbrev pub is_imported : FileKind → Bool
is_imported kind.Plain = true
is_imported kind.Json = true
is_imported kind.Csv = true
is_imported kind.Other = false
