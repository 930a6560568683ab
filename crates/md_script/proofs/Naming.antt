-- Names are UTF-8.
use Rattle.std.proofs.Common.{◌≡◌, ℕ, ◌<◌, Bool, true, false, List, [], ◌∷◌, Some, None, if◌then◌else◌, refl, arith, All}
use Rattle.std.specs.List.{list_all}
use Rattle.std.specs.Str.{is_utf8}
use Rattle.std.proofs.lemmas.Bool.Decides.{nat_tests}
use Rattle.std.proofs.lemmas.List.Elements.{All-cons, All-nil}
use Rattle.std.proofs.lemmas.Str.{IsUtf8-from_ascii, is_utf8-from_IsUtf8}
use Rattle.std.proofs.lemmas.Str.Ascii.{IsAscii-from_all}
use Rattle.std.proofs.lemmas.Bool.{and_parts}
use Rattle.md_value.specs.Name.{is_name, is_name_start, is_name_part}
use Rattle.md_world.specs.declared.order.SortKey.{SortKey}
use Rattle.md_script.specs.Options.{named}

part_small : (c : ℕ) → is_name_part c ≡ true → c < 128
part_small c h = grind (arith, nat_tests, h)

start_small : (c : ℕ) → is_name_start c ≡ true → c < 128
start_small c h = grind (arith, nat_tests, h)

parts_small : (cs : List ℕ) → list_all is_name_part cs ≡ true → All (λ b. b < 128) cs
parts_small [] h = All-nil (λ b. b < 128)
parts_small (c ∷ cs) h = let p = and_parts (is_name_part c) (list_all is_name_part cs) h in All-cons (λ b. b < 128) c cs (part_small c p.0) (parts_small cs p.1)

small : (name : List ℕ) → is_name name ≡ true → All (λ b. b < 128) name
small [] h = cc
small (c ∷ cs) h = let p = and_parts (is_name_start c) (list_all is_name_part cs) h in All-cons (λ b. b < 128) c cs (start_small c p.0) (parts_small cs p.1)

name_utf8 : (name : List ℕ) → is_name name ≡ true → is_utf8 name ≡ true
name_utf8 name h = is_utf8-from_IsUtf8 name (IsUtf8-from_ascii name (IsAscii-from_all name (small name h)))

no_name_by : (utf8 name : Bool) (bs : List ℕ) (key : SortKey) → (name ≡ true → utf8 ≡ true) → None ≡ (if utf8 then Some bs else None) → None ≡ (if name then Some key else None)
no_name_by true name bs key h is = cc
no_name_by false true bs key h is = absurd (let e = h refl in cc)
no_name_by false false bs key h is = refl

-- bytes that are not UTF-8 are no name
pub no_name : (descending : Bool) (name : List ℕ) → None ≡ (if is_utf8 name then Some name else None) → None ≡ named descending name
unfolding named
no_name descending name is = no_name_by (is_utf8 name) (is_name name) name (record { name = name; descending = descending }) (name_utf8 name) is
