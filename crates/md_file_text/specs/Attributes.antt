-- How attributes are printed.
use Rattle.std.specs.Prelude.{ℕ, ◌-◌, Bool, false, true, ◌==◌, List, [], ◌∷◌, ◌++◌, length, map, max, codes, encode_utf8_all, Option, None, if◌then◌else◌}
use Rattle.std.specs.Option.{option_map_or}
use Rattle.std.specs.List.{fold, flat_map, join_by}
use Rattle.std.specs.Fmt.{signed_decimal}
use Rattle.std.proofs.Math.ListN.{replicate}
use Rattle.md_value.specs.declared.value.Value.{Value}
use Rattle.md_value.specs.declared.value.Value.TheVariants as value
use Rattle.md_value.specs.Values.{is_same}
use Rattle.md_value.specs.Attrs.{Attr, get, without_name, text_content}
use Rattle.md_value.specs.Schema.{rule_of}
use Rattle.md_time.specs.Printed.{moment_text}
use Rattle.md_file_text.specs.Paths.{escape}

-- the names that are printed: those asked for, in their order, or else those of all attributes
abbrev pub printed_names : List Attr → List (List ℕ) → List (List ℕ)
printed_names attrs [] = map (λ attr. attr.0) (without_name text_content attrs)
printed_names attrs (name ∷ names) = name ∷ names

-- the values that are printed of a name; None where it counts as absent
abbrev pub printed_values : List Attr → List ℕ → Option (List Value)
printed_values attrs name = if is_same name text_content then None else get attrs name

-- a byte of a text in double quotes
abbrev pub escape_quoted : ℕ → List ℕ
escape_quoted b = if b == 34 then codes "\\\"" else escape b

-- a text in double quotes
unfoldable pub quoted : List ℕ → List ℕ
quoted text = codes "\"" ++ flat_map escape_quoted text ++ codes "\""

-- a flag
abbrev pub flag_text : Bool → List ℕ
flag_text flag = if flag then codes "1" else codes "0"

-- a value
abbrev pub value_text : Value → List ℕ
value_text (value.Text text) = quoted (encode_utf8_all text)
value_text (value.Number number) = signed_decimal number
value_text (value.Flag flag) = flag_text flag
value_text (value.Moment moment) = moment_text moment

-- a value alone: where it is printed raw, a text has neither quotes nor escapes
abbrev pub single_text : Bool → Value → List ℕ
single_text true (value.Text text) = encode_utf8_all text
single_text _ single = value_text single

-- values in parentheses, one on a line
unfoldable pub list_text : List Value → List ℕ
list_text values = codes "(\n    " ++ join_by value_text (codes ",\n    ") values ++ codes "\n)"

-- whether the schema gives the attribute of this name several values
abbrev pub is_many : List ℕ → Bool
is_many name = option_map_or (λ rule. rule.many) (rule_of name) false

-- the values of a name: in parentheses where it may have several, or has
abbrev pub values_text : Bool → List ℕ → List Value → List ℕ
values_text raw name (single ∷ []) = if is_many name then list_text (single ∷ []) else single_text raw single
values_text raw name values = list_text values

-- what is printed of a name: its values, or the marker where it is absent
unfoldable pub field_text : List Attr → Bool → List ℕ → List ℕ → List ℕ
field_text attrs raw marker name = option_map_or (values_text raw name) (printed_values attrs name) marker

-- the length of the longest name
abbrev pub longest : List (List ℕ) → ℕ
longest names = fold (λ most name. max most (length name)) 0 names

-- a name, with spaces up to the width, and what is printed of it
abbrev pub field_line : List Attr → ℕ → List ℕ → List ℕ → List ℕ
field_line attrs width marker name =
    name ++ replicate (width - length name) 32 ++ codes " = " ++ field_text attrs false marker name ++ codes "\n"

-- what is printed of each name, with a zero byte between two of them
abbrev pub raw_text : List Attr → List ℕ → List (List ℕ) → List ℕ
raw_text attrs marker names = join_by (field_text attrs true marker) (0 ∷ []) names

-- a line for each name, with the values under each other
abbrev pub lines_text : List Attr → List ℕ → List (List ℕ) → List ℕ
lines_text attrs marker names = flat_map (field_line attrs (longest names) marker) names

-- the attributes of a file as they are printed: of the names asked for or of all, raw or in lines, with the marker for
-- what is absent
unfoldable pub attrs_text : List Attr → List (List ℕ) → Bool → List ℕ → List ℕ
attrs_text attrs names raw marker =
    if raw then raw_text attrs marker (printed_names attrs names) else lines_text attrs marker (printed_names attrs names)
