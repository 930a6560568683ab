-- What the schema says of attributes.
use Rattle.std.specs.Prelude.{ℕ, Bool, true, false, ◌&&◌, codes, List, [], ◌∷◌, Option, Some, None, if◌then◌else◌}
use Rattle.md_value.specs.Values.{is_same, is_before}
use Rattle.md_value.specs.declared.schema.Rule.{Rule}
use Rattle.md_value.specs.declared.value.Kind.{Kind}
use Rattle.md_value.specs.declared.value.Kind.TheVariants.{Text, Number, Flag, Moment}

-- the attribute of this name: what it holds, whether several values of it, and whether the content of a file sets it
abbrev pub attribute : List ℕ → Kind → Bool → Bool → List ℕ × Rule
attribute name kind many from_files = (name, record { kind = kind; many = many; from_files = from_files })

-- all attributes with their rules, ascending by name
unfoldable pub schema : List (List ℕ × Rule)
schema =
    attribute (codes "kMDItemAuthors") Text true true ∷
    attribute (codes "kMDItemComment") Text false true ∷
    attribute (codes "kMDItemContentCreationDate") Moment false true ∷
    attribute (codes "kMDItemContentType") Text false false ∷
    attribute (codes "kMDItemContentTypeTree") Text true false ∷
    attribute (codes "kMDItemCopyright") Text false true ∷
    attribute (codes "kMDItemCreator") Text false true ∷
    attribute (codes "kMDItemDescription") Text false true ∷
    attribute (codes "kMDItemDisplayName") Text false false ∷
    attribute (codes "kMDItemDueDate") Moment false true ∷
    attribute (codes "kMDItemFSContentChangeDate") Moment false false ∷
    attribute (codes "kMDItemFSName") Text false false ∷
    attribute (codes "kMDItemFSSize") Number false false ∷
    attribute (codes "kMDItemKeywords") Text true true ∷
    attribute (codes "kMDItemKind") Text false false ∷
    attribute (codes "kMDItemLanguages") Text true true ∷
    attribute (codes "kMDItemNumberOfPages") Number false true ∷
    attribute (codes "kMDItemPath") Text false false ∷
    attribute (codes "kMDItemPublishers") Text true true ∷
    attribute (codes "kMDItemRecipients") Text true true ∷
    attribute (codes "kMDItemStarRating") Number false true ∷
    attribute (codes "kMDItemTextContent") Text false false ∷
    attribute (codes "kMDItemTitle") Text false true ∷
    attribute (codes "md_csv_columns") Number false false ∷
    attribute (codes "md_csv_rows") Number false false ∷
    attribute (codes "md_imported") Flag false false ∷
    []

-- whether each name of a table is before the next, by bytes
abbrev pub ascends : List (List ℕ × Rule) → Bool
ascends [] = true
ascends (first ∷ []) = true
ascends (first ∷ second ∷ rest) = is_before first.0 second.0 && ascends (second ∷ rest)

-- the rule of the name in a table
abbrev pub rule_in : List (List ℕ × Rule) → List ℕ → Option Rule
rule_in [] name = None
rule_in (attribute ∷ attributes) name = if is_same name attribute.0 then Some attribute.1 else rule_in attributes name

-- what the schema says of the attribute of this name
abbrev pub rule_of : List ℕ → Option Rule
rule_of name = rule_in schema name
