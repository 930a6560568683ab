-- The canonical spelling of strings, numbers and forms of time.
use Rattle.std.specs.Prelude.{ℕ, zero, suc, ◌/◌, ◌%◌, ◌^◌, ◌+◌, ◌==◌, Bool, true, false, ◌||◌, if◌then◌else◌, List, [], ◌∷◌, ◌++◌, map, ℤ, pos, negsuc, unsigned_abs, codes}
use Rattle.std.specs.Fmt.{decimal, signed_decimal}
use Rattle.std.specs.List.{flat_map}
use Rattle.md_time.specs.declared.form.Form.{Form}
use Rattle.md_time.specs.declared.form.Form.TheVariants as form
use Rattle.md_expr_tree.specs.declared.tree.Literal.{Literal}
use Rattle.md_expr_tree.specs.declared.tree.Literal.TheVariants as literal

-- the texts, with a separator between any two
abbrev pub join : List ℕ → List (List ℕ) → List ℕ
join between [] = []
join between (t ∷ []) = t
join between (t ∷ u ∷ more) = t ++ (between ++ join between (u ∷ more))

-- what stands before a member
abbrev pub separator : Bool → List ℕ → List ℕ
separator true between = []
separator false between = between

-- `"`, `\` and `*` behind a `\`
abbrev pub escape : ℕ → List ℕ
escape c = if (c == 34 || c == 92) || c == 42 then 92 ∷ c ∷ [] else c ∷ []

abbrev pub modifier : Bool → List ℕ → List ℕ
modifier true letter = letter
modifier false letter = []

-- pieces with a wildcard between any two, in double quotes, and the modifiers
abbrev pub words_text : List (List ℕ) → Bool → Bool → List ℕ
words_text pieces fold marks = codes "\"" ++ (join (codes "*") (map (flat_map escape) pieces) ++ (codes "\"" ++ (modifier fold (codes "c") ++ modifier marks (codes "d"))))

-- the decimals of a number of this many places, up to the last one that is not 0
abbrev pub decimals : ℕ → ℕ → List ℕ
decimals zero n = []
decimals (suc places) n = if n == 0 then [] else (48 + n / 10 ^ places) ∷ decimals places (n % 10 ^ places)

-- so many parts of 10^9, behind a `.`
abbrev pub fraction_text : ℕ → List ℕ
fraction_text parts = if parts == 0 then [] else codes "." ++ decimals 9 parts

abbrev pub minus : ℤ → List ℕ
minus (pos n) = []
minus (negsuc n) = codes "-"

-- a number in parts of 10^9
abbrev pub number_text : ℤ → List ℕ
number_text n = minus n ++ (decimal (unsigned_abs n / 10 ^ 9) ++ fraction_text (unsigned_abs n % 10 ^ 9))

-- a count in parentheses, where it is not 0
abbrev pub count_text : ℤ → List ℕ
count_text (pos zero) = []
count_text n = codes "(" ++ (signed_decimal n ++ codes ")")

-- a form of time by its word and its count
unfoldable pub counted : List ℕ → ℤ → List ℕ
counted word n = codes "$time." ++ (word ++ count_text n)

abbrev pub time_text : Form → List ℕ
time_text (form.Now n) = counted (codes "now") n
time_text (form.Day n) = counted (codes "today") n
time_text (form.Week n) = counted (codes "this_week") n
time_text (form.Month n) = counted (codes "this_month") n
time_text (form.Year n) = counted (codes "this_year") n
time_text (form.Iso text) = codes "$time.iso(" ++ (text ++ codes ")")

abbrev pub literal_text : Literal → List ℕ
literal_text (literal.Words pieces fold marks) = words_text pieces fold marks
literal_text (literal.Number n) = number_text n
literal_text (literal.Time f) = time_text f
literal_text literal.Present = codes "*"
