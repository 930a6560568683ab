-- What an index has of a row.
use Rattle.std.specs.Prelude.{ℕ, Bool, false, not, ◌&&◌, List, [], ◌∷◌, ◌++◌, map, filter, Option, None, Some, if◌then◌else◌}
use Rattle.std.specs.Option.{option_map_or}
use Rattle.std.specs.Ordering.{nat_cmp, is_eq}
use Rattle.std.specs.Cmp.Lexicographic.{slice_cmp}
use Rattle.std.specs.List.{list_any}
use Rattle.md_value.specs.Values.{is_same}
use Rattle.md_value.specs.Attrs.{Attr, get, text_content}
use Rattle.md_value.specs.declared.value.Value.{Value}
use Rattle.md_world.specs.Orders.{value_cmp}
use Rattle.md_world.specs.declared.Row.{Row}
use Rattle.md_index.specs.declared.facts.Fact.{Fact}

-- the values of an attribute
abbrev pub values_named : List Attr → List ℕ → List Value
values_named attrs name = option_map_or (λ values. values) (get attrs name) []

-- whether the value is among these
abbrev pub has_value : List Value → Value → Bool
has_value values value = list_any (λ other. is_eq (value_cmp other value)) values

-- whether the attribute has the value among its values
abbrev pub attr_has : Option Row → List ℕ → Value → Bool
attr_has None name value = false
attr_has (Some row) name value = has_value (values_named row.attrs name) value

-- whether the attribute has the value and is not the text content, which is not indexed
abbrev pub row_has : Option Row → List ℕ → Value → Bool
row_has row name value = not (is_same name text_content) && attr_has row name value

-- whether it says that the attribute has the value
abbrev pub is_fact : List ℕ → Value → Fact → Bool
is_fact name value fact = is_eq (slice_cmp nat_cmp fact.name name) && is_eq (value_cmp fact.indexed value)

-- whether one of these says that the attribute has the value
abbrev pub has_fact : List Fact → List ℕ → Value → Bool
has_fact facts name value = list_any (is_fact name value) facts

-- the values of one attribute that another row has not
abbrev pub facts_at : Option Row → List ℕ → List Value → List Fact
facts_at other name values = map (λ value. record { name = name; indexed = value }) (filter (λ value. not (attr_has other name value)) values)

-- each attribute but the text content with each of its values that another row has not
abbrev pub facts_in : Option Row → List Attr → List Fact
facts_in other [] = []
facts_in other (attr ∷ attrs) = (if is_same attr.0 text_content then [] else facts_at other attr.0 attr.1) ++ facts_in other attrs
