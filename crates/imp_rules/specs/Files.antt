-- The attributes that the content of a file sets.
use Rattle.std.specs.Prelude.{ℕ, Bool, List, [], ◌∷◌, map, filter, chars, codes, Result}
use Rattle.std.specs.List.{fold}
use Rattle.std.specs.Borrow.{Bor}
use Rattle.md_value.specs.Attrs.{Attr, put}
use Rattle.md_value.specs.Name.{is_name}
use Rattle.md_value.specs.Schema.{schema}
use Rattle.md_value.specs.declared.fault.Fault.{Fault}
use Rattle.md_value.specs.declared.schema.Rule.{Rule}
use Rattle.md_value.specs.declared.value.Value.{Value}
use Rattle.md_value.specs.declared.value.Value.TheVariants as value
use Rattle.imp_rules.specs.Faults.{made_of, all_given}

-- the attributes with these values at the name, in place of older ones
unfoldable pub with_values : List Attr → List ℕ → List Value → List Attr
with_values attrs name values = put attrs name values

-- the attributes with these values at the name, and as they are where there is no value
abbrev pub with_given : List Attr → Attr → List Attr
with_given attrs (name, []) = attrs
with_given attrs (name, first ∷ more) = with_values attrs name (first ∷ more)

-- an attribute of the schema: its name and its rule
abbrev pub Known : Type 0
Known = List ℕ × Rule

-- that of an entry that is lent
abbrev pub known_of : Bor (List ℕ) × Rule → Known
known_of entry = (entry.0.now, entry.1)

-- whether its name is one
abbrev pub has_name : Known → Bool
has_name known = is_name known.0

-- whether the content of a file sets it
abbrev pub is_from_files : Known → Bool
is_from_files known = known.1.from_files

-- what a file gives each name, under the rule of that name
abbrev pub Giving : Type 0
Giving = List ℕ → Rule → Result (List Value) Fault

abbrev pub attribute_of : Giving → Known → Result Attr Fault
attribute_of giving known = made_of (λ values. (known.0, values)) (giving known.0 known.1)

-- the names that files set, in turn, each with what the file gives it, or the first fault
abbrev pub given_of : Giving → List Known → Result (List Attr) Fault
given_of giving knowns = all_given (map (attribute_of giving) (filter is_from_files knowns))

-- the attributes that a file sets, or the first fault in the order of the names
unfoldable pub file_attributes : Giving → Result (List Attr) Fault
file_attributes giving = made_of (fold with_given []) (given_of giving schema)

-- one text
abbrev pub text : List ℕ → List Value
text bytes = value.Text (chars bytes) ∷ []

-- the attributes with this text content
abbrev pub with_content : List ℕ → List Attr → List Attr
with_content bytes attrs = with_values attrs (codes "kMDItemTextContent") (text bytes)
