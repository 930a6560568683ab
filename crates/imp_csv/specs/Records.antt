-- Records that lie one after another in one list of fields, and how a text is read into them.
use Rattle.std.specs.Prelude.{◌≡◌, ◌++◌, ◌==◌, ◌||◌, ◌≤◌, ◌<◌, ⊤, ℕ, Bool, true, false, List, [], ◌∷◌, length, take, drop, if◌then◌else◌, Option, Some, None}
use Rattle.std.specs.Str.{IsCharBoundary}
use Rattle.csv.specs.Machine.{step, is_end, fields_after, field_after, ends_at_end}
use Rattle.csv.specs.Reading.{default_config}
use Rattle.csv.specs.declared.parser.State.{State}
use Rattle.csv.specs.declared.parser.State.TheVariants as st
use Rattle.md_value.specs.Values.{is_same}
use Rattle.imp_csv.specs.Tables.{Row, is_at}

-- where the fields of a text end, of which the first begins at a place: the ends do not fall, the text may be cut at each, and
-- the last is its own
unfoldable pub AreEnds : ℕ → List ℕ → List ℕ → Type 0
AreEnds start [] text = start ≡ length text
AreEnds start (end ∷ ends) text = (start ≤ end) × IsCharBoundary text end × AreEnds end ends text

-- the records of these lengths that the fields are
unfoldable pub cut : List ℕ → List (List ℕ) → List Row
cut [] fields = []
cut (n ∷ ns) fields = take n fields ∷ cut ns (drop n fields)

-- whether a byte ends a field that is in no quotes
abbrev pub ends_field : ℕ → Bool
ends_field byte = (byte == 44) || ((byte == 13) || (byte == 10))

-- whether a text begins with a byte
abbrev pub begins_with : ℕ → List ℕ → Bool
begins_with byte [] = false
begins_with byte (first ∷ rest) = first == byte

-- whether a text begins with the end of a line
abbrev pub begins_line : List ℕ → Bool
begins_line [] = false
begins_line (first ∷ rest) = (first == 13) || (first == 10)

-- a text is empty, or begins with the end of a field
abbrev pub IsEnded : List ℕ → Type 0
IsEnded [] = ⊤
IsEnded (first ∷ rest) = ends_field first ≡ true

-- a text is empty, or begins with the end of a line
abbrev pub IsLineEnded : List ℕ → Type 0
IsLineEnded [] = ⊤
IsLineEnded (first ∷ rest) = ((first == 13) || (first == 10)) ≡ true

-- the records that a text gives from a state, with the fields of the record at hand and the bytes of the field at hand
unfoldable pub records_at : State → Row → List ℕ → List ℕ → List Row
records_at s row field [] = if ends_at_end s then (row ++ field ∷ []) ∷ [] else []
records_at s row field (byte ∷ rest) =
    if is_end (step default_config s byte).1 then fields_after (step default_config s byte).1 row field ∷ records_at (step default_config s byte).0 [] [] rest
    else records_at (step default_config s byte).0 (fields_after (step default_config s byte).1 row field) (field_after (step default_config s byte).1 byte field) rest

-- what stands in quotes is read up to a quote
abbrev pub Unquotes : List ℕ → List ℕ → List ℕ → List ℕ → Type 0
Unquotes field text made rest = ((row : Row) → records_at st.InQuoted row field text ≡ records_at st.AfterQuote row made rest) × (length rest ≤ length text)

-- a field is read and added
abbrev pub AddsField : List (List ℕ) → List ℕ → List (List ℕ) → List ℕ → Type 0
AddsField old text new rest = (field : List ℕ) × (new ≡ old ++ field ∷ [])
    × ((row : Row) → records_at st.StartField row [] text ≡ records_at st.InField row field rest)
    × IsEnded rest × (length rest ≤ length text)

-- the fields of a record are read and added
abbrev pub AddsRecord : List (List ℕ) → List ℕ → List (List ℕ) → List ℕ → Type 0
AddsRecord old text new rest = (row : Row) × (new ≡ old ++ row)
    × (records_at st.StartField [] [] text ≡ row ∷ records_at st.StartRecord [] [] rest)
    × IsLineEnded rest × (length rest ≤ length text)

-- the ends of lines before the next record are read
abbrev pub SkipsLines : List ℕ → List ℕ → Type 0
SkipsLines text rest = (records_at st.StartRecord [] [] text ≡ records_at st.StartRecord [] [] rest)
    × (begins_line rest ≡ false) × (length rest ≤ length text) × (begins_line text ≡ true → length rest < length text)

-- whether a column has this name
abbrev pub is_titled : List ℕ → Option (List ℕ) → Bool
is_titled name (Some column) = is_same name column
is_titled name None = false

-- the field of a cell, where it is in a column of this name and not empty
abbrev pub cell_of : List ℕ → Option (List ℕ) → Option (List ℕ) → List (List ℕ)
cell_of name (Some column) (Some field) = if is_at name (column, field) then field ∷ [] else []
cell_of name (Some column) None = []
cell_of name None field = []
