-- The attributes that the text of a JSON object gives.
use Rattle.std.specs.Prelude.{ℕ, ℤ, Bool, List, [], ◌∷◌, map, filter, chars, if◌then◌else◌, not, Option, Some, None, is_some, Result, Ok, Err}
use Rattle.std.specs.Option.{ok_or, option_map_or}
use Rattle.md_value.specs.Attrs.{Attr}
use Rattle.md_value.specs.declared.fault.Fault.{Fault}
use Rattle.md_value.specs.declared.fault.Fault.TheVariants.{NotJson, NotObject, BadKind, BadNumber, NotSingle}
use Rattle.md_value.specs.declared.schema.Rule.{Rule}
use Rattle.md_value.specs.declared.value.Kind.{Kind}
use Rattle.md_value.specs.declared.value.Kind.TheVariants as kind
use Rattle.md_value.specs.declared.value.Value.{Value}
use Rattle.md_value.specs.declared.value.Value.TheVariants as value
use Rattle.serde_json.specs.Data.{Data, null, array, object, Items, no_items, item}
use Rattle.serde_json.specs.Find.{get, as_null, as_number, as_str, as_i64}
use Rattle.serde_json.specs.Read.{read}
use Rattle.imp_rules.specs.Content.{joined}
use Rattle.imp_rules.specs.Faults.{made_of, given_then, all_given}
use Rattle.imp_rules.specs.Files.{Giving, file_attributes, with_content}
use Rattle.imp_rules.specs.Values.{date_value}
use Rattle.imp_json.specs.Strings.{strings}

-- the items of an array, in order
abbrev pub list_of : Items → List Data
list_of no_items = []
list_of (item d ds) = d ∷ list_of ds

-- not null
abbrev pub is_given : Data → Bool
is_given d = not (is_some (as_null d))

-- the text of a string
abbrev pub text_of : List ℕ → Data → Result Value Fault
text_of name d = made_of (λ s. value.Text (chars s)) (ok_or (as_str d) (BadKind name))

-- a number that is a whole number of 64 bits with sign
abbrev pub number_of : List ℕ → Data → Result Value Fault
number_of name d = given_then (λ n. made_of value.Number (ok_or (as_i64 n) (BadNumber name))) (ok_or (as_number d) (BadKind name))

-- the moment of a string that is an ISO text
abbrev pub moment_of : ℤ → List ℕ → Data → Result Value Fault
moment_of offset name d = given_then (λ s. date_value name s offset) (ok_or (as_str d) (BadKind name))

-- the value that it gives an attribute of a kind
abbrev pub value_of : ℤ → List ℕ → Kind → Data → Result Value Fault
value_of offset name kind.Text d = text_of name d
value_of offset name kind.Number d = number_of name d
value_of offset name kind.Moment d = moment_of offset name d
value_of offset name kind.Flag d = Err (BadKind name)

-- the values that it gives the attribute of this name: none where it is null, those of an array's members that are not
-- null where the attribute may have many, else its own
abbrev pub values_of : ℤ → List ℕ → Rule → Data → Result (List Value) Fault
values_of offset name rule null = Ok []
values_of offset name rule (array ds) =
    if rule.many then all_given (map (value_of offset name rule.kind) (filter is_given (list_of ds))) else Err (NotSingle name)
values_of offset name rule d = made_of (λ v. v ∷ []) (value_of offset name rule.kind d)

-- what an object gives each name: that of the member of this key, and nothing where there is none
abbrev pub giving_of : ℤ → Data → Giving
giving_of offset d name rule = option_map_or (values_of offset name rule) (get name d) (Ok [])

-- the attributes that a JSON value gives, or its first fault
abbrev pub attributes_of : ℤ → Option Data → Result (List Attr) Fault
attributes_of offset None = Err NotJson
attributes_of offset (Some (object ms)) = made_of (with_content (joined (strings (object ms)))) (file_attributes (giving_of offset (object ms)))
attributes_of offset (Some d) = Err NotObject

-- those that a text gives
abbrev pub json_attributes : List ℕ → ℤ → Result (List Attr) Fault
json_attributes text offset = attributes_of offset (read text)
