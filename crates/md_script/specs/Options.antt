-- The options of a query, and where they end.
use Rattle.std.specs.Prelude.{ℕ, ◌==◌, nat_le, Bool, true, false, ◌&&◌, if◌then◌else◌, List, [], ◌∷◌, ◌++◌, length, codes, bytes_eq, Option, Some, None, is_some, slice_get}
use Rattle.std.specs.Option.{option_map, option_and_then}
use Rattle.std.specs.List.{list_any, filter_map, before_first, after_first}
use Rattle.md_value.specs.Name.{is_name}
use Rattle.md_world.specs.declared.order.SortKey.{SortKey}
use Rattle.md_script.specs.declared.options.Choice.{Choice}
use Rattle.md_script.specs.declared.options.Choice.TheVariants as choice
use Rattle.md_script.specs.declared.options.Options.{Options}
use Rattle.md_script.specs.Limits.{most_keys}
use Rattle.md_script.specs.Lines.{spaced}
use Rattle.md_script.specs.Words.{number_of, folder_of}

-- a `=`
abbrev pub is_equals : ℕ → Bool
is_equals b = b == 61

-- a key of this name
unfoldable pub named : Bool → List ℕ → Option SortKey
named descending name = if is_name name then Some (record { name = name; descending = descending }) else None

-- `NAME` or `-NAME`
unfoldable pub key_of : List ℕ → Option SortKey
key_of [] = None
key_of (b ∷ bs) = if b == 45 then named true bs else named false (b ∷ bs)

-- an option with a number: `first=K`, `progress=K`, `update=K` or `ms=K`
unfoldable pub number_choice : List ℕ → List ℕ → Option Choice
number_choice name value =
    option_and_then (λ k.
    if bytes_eq name (codes "first") then Some (choice.First k)
    else (if bytes_eq name (codes "progress") then Some (choice.Progress k)
    else (if bytes_eq name (codes "update") then Some (choice.Update k)
    else (if bytes_eq name (codes "ms") then Some (choice.Ms k)
    else None)))) (number_of value)

-- an option by what stands before and after its `=`: `in=PATH`, `by=NAME`, `by=-NAME`, or one with a number
unfoldable pub choice_by : List ℕ → List ℕ → Option Choice
choice_by name value =
    if bytes_eq name (codes "in") then option_map (λ scope. choice.In scope) (folder_of value)
    else (if bytes_eq name (codes "by") then option_map (λ key. choice.By key) (key_of value)
    else number_choice name value)

-- what one word chooses
unfoldable pub choice_of : List ℕ → Option Choice
choice_of word = if list_any is_equals word then choice_by (before_first is_equals word) (after_first is_equals word) else None

-- what the words choose, where each is an option
abbrev pub choices_of : List (List ℕ) → Option (List Choice)
choices_of [] = Some []
choices_of (word ∷ words) = option_and_then (λ c. option_map (λ cs. c ∷ cs) (choices_of words)) (choice_of word)

-- what a choice of each kind gives

abbrev pub scope_in : Choice → Option (List ℕ)
scope_in (choice.In scope) = Some scope
scope_in _ = None

abbrev pub first_in : Choice → Option ℕ
first_in (choice.First k) = Some k
first_in _ = None

abbrev pub progress_in : Choice → Option ℕ
progress_in (choice.Progress k) = Some k
progress_in _ = None

abbrev pub update_in : Choice → Option ℕ
update_in (choice.Update k) = Some k
update_in _ = None

abbrev pub ms_in : Choice → Option ℕ
ms_in (choice.Ms k) = Some k
ms_in _ = None

abbrev pub key_in : Choice → Option SortKey
key_in (choice.By key) = Some key
key_in _ = None

-- how many of the choices are of a kind
abbrev pub count_in : {A : Type 0} → (Choice → Option A) → List Choice → ℕ
count_in kind choices = length (filter_map kind choices)

-- the only choice of a kind, if there is one
abbrev pub only_in : {A : Type 0} → (Choice → Option A) → List Choice → Option A
only_in kind choices = slice_get (filter_map kind choices) 0

-- each option stands at most once, but `by` up to 8 times
abbrev pub are_allowed : List Choice → Bool
are_allowed choices =
    nat_le (count_in scope_in choices) 1 && nat_le (count_in first_in choices) 1 && nat_le (count_in progress_in choices) 1
    && nat_le (count_in update_in choices) 1 && nat_le (count_in ms_in choices) 1 && nat_le (count_in key_in choices) most_keys

-- what the choices say together: of each kind the only one, and the keys in their order
abbrev pub together : List Choice → Options
together choices =
    record {
      scope = only_in scope_in choices;
      first = only_in first_in choices;
      progress = only_in progress_in choices;
      update = only_in update_in choices;
      ms = only_in ms_in choices;
      keys = filter_map key_in choices;
    }

-- `OPTIONS`: what the words say together, where each is an option and they are allowed
abbrev pub options_of : List (List ℕ) → Option Options
options_of words = option_and_then (λ choices. if are_allowed choices then Some (together choices) else None) (choices_of words)

-- the word that ends the options
abbrev pub is_where : List ℕ → Bool
is_where word = bytes_eq word (codes "where")

-- `OPTIONS where EXPRESSION` or `where EXPRESSION`: what the options say, and the text of the expression
unfoldable pub asked_of : List (List ℕ) → Option (Options × List ℕ)
asked_of words =
    if list_any is_where words then option_map (λ options. (options, spaced (after_first is_where words))) (options_of (before_first is_where words)) else None

-- the options with one choice more, unless one of its kind stands that may stand once, or 8 keys do
abbrev pub with_choice : Options → Choice → Option Options
with_choice o (choice.In scope) = if is_some o.scope then None else Some (record o { scope = Some scope })
with_choice o (choice.First k) = if is_some o.first then None else Some (record o { first = Some k })
with_choice o (choice.Progress k) = if is_some o.progress then None else Some (record o { progress = Some k })
with_choice o (choice.Update k) = if is_some o.update then None else Some (record o { update = Some k })
with_choice o (choice.Ms k) = if is_some o.ms then None else Some (record o { ms = Some k })
with_choice o (choice.By key) = if length o.keys == most_keys then None else Some (record o { keys = o.keys ++ key ∷ [] })
