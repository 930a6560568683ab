-- The lists of the importers and of the attributes.
use Rattle.std.specs.Prelude.{ℕ, Bool, List, ◌++◌, codes, if◌then◌else◌}
use Rattle.std.specs.List.{flat_map}
use Rattle.md_value.specs.Schema.{schema}
use Rattle.md_value.specs.declared.schema.Rule.{Rule}
use Rattle.md_value.specs.declared.value.Kind.{Kind}
use Rattle.md_value.specs.declared.value.Kind.TheVariants as kind
use Rattle.imp_kind.specs.Kinds.{content_type, ending}
use Rattle.imp_kind.specs.declared.kind.FileKind.{FileKind}
use Rattle.imp_kind.specs.declared.kind.FileKind.TheVariants as file

-- a line of an importer: the content type of its files, its name and the ending of their names
abbrev pub importer_line : FileKind → List ℕ → List ℕ
importer_line k importer = content_type k ++ codes " " ++ importer ++ codes " " ++ ending k ++ codes "\n"

-- a line for each importer
abbrev pub importers_text : List ℕ
importers_text = importer_line file.Plain (codes "imp_text") ++ importer_line file.Json (codes "imp_json") ++ importer_line file.Csv (codes "imp_csv")

-- a kind of values, by Apple's name of its type
abbrev pub type_words : Kind → List ℕ
type_words kind.Text = codes "CFString"
type_words kind.Number = codes "CFNumber"
type_words kind.Flag = codes "CFBoolean"
type_words kind.Moment = codes "CFDate"

-- whether there may be several values
abbrev pub many_words : Bool → List ℕ
many_words many = if many then codes "many" else codes "one"

-- a line of an attribute, its type and whether it may have several values
abbrev pub attribute_line : List ℕ × Rule → List ℕ
attribute_line attribute =
    attribute.0 ++ codes " " ++ type_words attribute.1.kind ++ codes " " ++ many_words attribute.1.many ++ codes "\n"

-- a line for each attribute of the schema
unfoldable pub attributes_text : List ℕ
attributes_text = flat_map attribute_line schema
