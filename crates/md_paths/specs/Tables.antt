-- Paths by number, and their numbers in path order.
use Rattle.std.specs.Prelude.{◌≡◌, ℕ, suc, ◌<◌, ◌==◌, Bool, true, false, List, [], ◌∷◌, Option, None, Some, length, map, get_or, slice_get, if◌then◌else◌}
use Rattle.std.specs.Option.{option_map_or}
use Rattle.std.specs.List.{AllByRecursion, list_any}
use Rattle.md_value.specs.Values.{PathBytes, is_same, is_before}

-- the paths by number, the numbers in path order, and for how many more paths there is room
pub record Numbered : Type 0 where
  pub keys : List PathBytes
  pub order : List ℕ
  pub spare : ℕ

-- the next number
abbrev pub next_number : Option ℕ → Option ℕ
next_number None = None
next_number (Some number) = Some (suc number)

-- the number of a path
abbrev pub number_in : List PathBytes → PathBytes → Option ℕ
number_in [] path = None
number_in (key ∷ keys) path = if is_same key path then Some 0 else next_number (number_in keys path)

-- the path of a number
abbrev pub path_in : List PathBytes → ℕ → PathBytes
path_in keys number = get_or keys number []

-- whether a number is that of a path
abbrev pub has_at : List PathBytes → ℕ → PathBytes → Bool
has_at keys number path = option_map_or (λ key. is_same key path) (slice_get keys number) false

-- whether the path of a number stands before a path
abbrev pub stands_before : List PathBytes → PathBytes → ℕ → Bool
stands_before keys path number = option_map_or (λ key. is_before key path) (slice_get keys number) false

-- each path stands before all later ones
abbrev pub Ascend : List PathBytes → Type 0
Ascend [] = Unit {0}
Ascend (path ∷ paths) = AllByRecursion (λ later. is_before path later ≡ true) paths × Ascend paths

-- whether a number is listed
abbrev pub lists : List ℕ → ℕ → Type 0
lists order number = list_any (λ other. other == number) order ≡ true

-- the numbers of all paths, in path order
pub record AreSorted (keys : List PathBytes) (order : List ℕ) : Type 0 where
  pub count : length order ≡ length keys
  pub within : AllByRecursion (λ number. number < length keys) order
  pub ascend : Ascend (map (path_in keys) order)
  pub all : (number : ℕ) → number < length keys → lists order number
