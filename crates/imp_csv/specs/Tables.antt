-- The attributes that a CSV text gives.
use Rattle.std.specs.Prelude.{ℕ, ◌+◌, ℤ, pos, Bool, not, ◌==◌, ◌&&◌, nat_lt, List, [], ◌∷◌, length, map, filter, chars, codes, if◌then◌else◌, Option, Some, None, Result, Ok, Err}
use Rattle.std.specs.List.{flat_map, position, zip}
use Rattle.std.specs.Option.{ok_or, option_map}
use Rattle.csv.specs.Reading.{records, default_config, strip_bom}
use Rattle.md_value.specs.Attrs.{Attr}
use Rattle.md_value.specs.Values.{is_same}
use Rattle.md_value.specs.declared.fault.Fault.{Fault}
use Rattle.md_value.specs.declared.fault.Fault.TheVariants.{BadKind, BadNumber, NotSingle, Uneven}
use Rattle.md_value.specs.declared.schema.Rule.{Rule}
use Rattle.md_value.specs.declared.value.Kind.{Kind}
use Rattle.md_value.specs.declared.value.Kind.TheVariants as kind
use Rattle.md_value.specs.declared.value.Value.{Value}
use Rattle.md_value.specs.declared.value.Value.TheVariants as value
use Rattle.imp_rules.specs.Content.{joined}
use Rattle.imp_rules.specs.Faults.{made_of, all_given}
use Rattle.imp_rules.specs.Files.{Giving, file_attributes, with_values, with_content}
use Rattle.imp_rules.specs.Values.{date_value}
use Rattle.imp_csv.specs.Numbers.{whole_number}

-- the fields of a record
abbrev pub Row : Type 0
Row = List (List ℕ)

-- the records of a text, with no header, of any lengths and untrimmed; the reader drops a byte order mark before them
unfoldable pub records_of : List ℕ → List Row
records_of text = records default_config (strip_bom text)

-- the first record, and those after it
abbrev pub header_of : List Row → Row
header_of [] = []
header_of (header ∷ later) = header

abbrev pub later_of : List Row → List Row
later_of [] = []
later_of (header ∷ later) = later

-- a record has another number of fields than the header
abbrev pub is_uneven : Row → Row → Bool
is_uneven header row = not (length row == length header)

-- the number of the first record, from 1, that has another number of fields than the first
abbrev pub uneven_of : List Row → Option ℕ
uneven_of rows = option_map (λ place. place + 1) (position (is_uneven (header_of rows)) rows)

-- a field that is not empty, in a column of this name
abbrev pub is_at : List ℕ → List ℕ × List ℕ → Bool
is_at name cell = is_same name cell.0 && not (length cell.1 == 0)

-- a record's fields that are not empty, in the columns of this name
abbrev pub fields_at : List ℕ → Row → Row → List (List ℕ)
fields_at name header row = map (λ cell. cell.1) (filter (is_at name) (zip header row))

-- those of the records after the header, by record and then by column
abbrev pub fields_of_name : List ℕ → List Row → List (List ℕ)
fields_of_name name rows = flat_map (fields_at name (header_of rows)) (later_of rows)

-- the value that a field gives an attribute of a kind
abbrev pub value_of : ℤ → List ℕ → Kind → List ℕ → Result Value Fault
value_of offset name kind.Text field = Ok (value.Text (chars field))
value_of offset name kind.Number field = made_of value.Number (ok_or (whole_number field) (BadNumber name))
value_of offset name kind.Moment field = date_value name field offset
value_of offset name kind.Flag field = Err (BadKind name)

-- the values that the fields give: not two or more for an attribute that has one
abbrev pub values_of : ℤ → List ℕ → Rule → List (List ℕ) → Result (List Value) Fault
values_of offset name rule fields =
    if not rule.many && nat_lt 1 (length fields) then Err (NotSingle name) else all_given (map (value_of offset name rule.kind) fields)

-- what the records give each name
abbrev pub giving_of : ℤ → List Row → Giving
giving_of offset rows name rule = values_of offset name rule (fields_of_name name rows)

-- a number of fields or records
abbrev pub count : {A : Type 0} → List A → List Value
count xs = value.Number (pos (length xs)) ∷ []

-- the attributes with the numbers of columns and rows, and all fields of all records as text content
abbrev pub with_table : List Row → List Attr → List Attr
with_table rows attrs =
    with_content (joined (flat_map (λ row. row) rows))
    (with_values (with_values attrs (codes "md_csv_columns") (count (header_of rows))) (codes "md_csv_rows") (count (later_of rows)))

-- the attributes of even records, or of a text with an uneven one its fault
abbrev pub even_or : Option ℕ → Result (List Attr) Fault → Result (List Attr) Fault
even_or (Some number) given = Err (Uneven number)
even_or None given = given

-- the attributes that records give, or their first fault
abbrev pub attributes_of : ℤ → List Row → Result (List Attr) Fault
attributes_of offset rows = even_or (uneven_of rows) (made_of (with_table rows) (file_attributes (giving_of offset rows)))

-- those that a text gives
abbrev pub csv_attributes : List ℕ → ℤ → Result (List Attr) Fault
csv_attributes text offset = attributes_of offset (records_of text)
