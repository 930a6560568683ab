-- The values that a JSON value gives an attribute, and what holds of them.
use Rattle.std.proofs.Common.{◌≡◌, ℕ, ℤ, ◌<◌, Bool, true, false, List, [], ◌∷◌, length, get_or, drop, map, filter, Option, Some, None, Result, Ok, Err, refl, sym, ap, ◌∙◌, cond, subst, chars, is_some, ◌+◌}
use Rattle.std.proofs.lemmas.List.{at_drop_more}
use Rattle.md_value.specs.Attrs.{Attr}
use Rattle.imp_rules.specs.Content.{joined}
use Rattle.imp_rules.specs.Files.{file_attributes, with_content}
use Rattle.imp_json.specs.Strings.{strings}
use Rattle.std.specs.List.{AllByRecursion}
use Rattle.std.specs.Option.{ok_or}
use Rattle.md_value.specs.declared.fault.Fault.{Fault}
use Rattle.md_value.specs.declared.fault.Fault.TheVariants.{NotSingle}
use Rattle.md_value.specs.declared.schema.Rule.{Rule}
use Rattle.md_value.specs.declared.value.Kind.{Kind}
use Rattle.md_value.specs.declared.value.Kind.TheVariants as kind
use Rattle.md_value.specs.declared.value.Value.{Value}
use Rattle.md_value.specs.declared.value.Value.TheVariants as value
use Rattle.serde_json.specs.Data.{Data, Num, null, boolean, number, string, array, object}
use Rattle.serde_json.specs.Find.{as_i64, as_str, as_number, as_object}
use Rattle.serde_json.specs.View.{view, items_of}
use Rattle.serde_json.specs.declared.value.Value.{Value as Json}
use Rattle.imp_rules.specs.Faults.{made_of, given_then, all_given}
use Rattle.imp_rules.specs.Values.{date_value}
use Rattle.imp_rules.proofs.Given.{IsOf, given_each}
use Rattle.imp_rules.proofs.Dates.{date_good}
use Rattle.imp_json.specs.Objects.{list_of, is_given, value_of, values_of, giving_of, attributes_of}

pub list_of-items_of : (ds : List Data) → list_of (items_of ds) ≡ ds
list_of-items_of [] = refl
list_of-items_of (d ∷ ds) = ap (λ rest. d ∷ rest) (list_of-items_of ds)

text_good : (s : Option (List ℕ)) (fault : Fault) (v : Value) → made_of (λ t. value.Text (chars t)) (ok_or s fault) ≡ Ok v → IsOf kind.Text v
text_good (Some s) fault v e = let same : value.Text (chars s) ≡ v = cc in subst (IsOf kind.Text) same (tt, refl)
text_good None fault v e = absurd (cc)

whole_good : (n : Option ℤ) (fault : Fault) (v : Value) → made_of value.Number (ok_or n fault) ≡ Ok v → IsOf kind.Number v
whole_good (Some z) fault v e = let same : value.Number z ≡ v = cc in subst (IsOf kind.Number) same (tt, refl)
whole_good None fault v e = absurd (cc)

number_good : (n : Option Num) (kind_fault fault : Fault) (v : Value) → given_then (λ m. made_of value.Number (ok_or (as_i64 m) fault)) (ok_or n kind_fault) ≡ Ok v → IsOf kind.Number v
number_good (Some n) kind_fault fault v e = whole_good (as_i64 n) fault v e
number_good None kind_fault fault v e = absurd (cc)

moment_good : (offset : ℤ) (name : List ℕ) (s : Option (List ℕ)) (fault : Fault) (v : Value) → given_then (λ t. date_value name t offset) (ok_or s fault) ≡ Ok v → IsOf kind.Moment v
moment_good offset name (Some s) fault v e = date_good name s offset v e
moment_good offset name None fault v e = absurd (cc)

value_good : (offset : ℤ) (name : List ℕ) (k : Kind) (d : Data) (v : Value) → value_of offset name k d ≡ Ok v → IsOf k v
value_good offset name kind.Text d v e = text_good (as_str d) _ v e
value_good offset name kind.Number d v e = number_good (as_number d) _ _ v e
value_good offset name kind.Moment d v e = moment_good offset name (as_str d) _ v e
value_good offset name kind.Flag d v e = absurd (cc)

one_good : (k : Kind) (given : Result Value Fault) (vs : List Value) → ((v : Value) → given ≡ Ok v → IsOf k v) → made_of (λ v. v ∷ []) given ≡ Ok vs → AllByRecursion (IsOf k) vs
one_good k (Ok v) vs each e = let same : v ∷ [] ≡ vs = cc in subst (AllByRecursion (IsOf k)) same (each v refl, tt)
one_good k (Err fault) vs each e = absurd (cc)

many_good : (offset : ℤ) (name : List ℕ) (rule : Rule) (ds : List Data) (b : Bool) (vs : List Value) → cond b (all_given (map (value_of offset name rule.kind) (filter is_given ds))) (Err (NotSingle name)) ≡ Ok vs → AllByRecursion (IsOf rule.kind) vs
many_good offset name rule ds true vs e = given_each (IsOf rule.kind) (value_of offset name rule.kind) (value_good offset name rule.kind) (filter is_given ds) vs e
many_good offset name rule ds false vs e = absurd (cc)

-- the values that are given are of the rule's kind, and may stand
pub values_good : (offset : ℤ) (name : List ℕ) (rule : Rule) (d : Data) (vs : List Value) → values_of offset name rule d ≡ Ok vs → AllByRecursion (IsOf rule.kind) vs
values_good offset name rule null [] e = tt
values_good offset name rule null (v ∷ vs) e = absurd (cc)
values_good offset name rule (array ds) vs e = many_good offset name rule (list_of ds) rule.many vs e
values_good offset name rule (boolean b) vs e = one_good rule.kind (value_of offset name rule.kind (boolean b)) vs (value_good offset name rule.kind (boolean b)) e
values_good offset name rule (number n) vs e = one_good rule.kind (value_of offset name rule.kind (number n)) vs (value_good offset name rule.kind (number n)) e
values_good offset name rule (string s) vs e = one_good rule.kind (value_of offset name rule.kind (string s)) vs (value_good offset name rule.kind (string s)) e
values_good offset name rule (object ms) vs e = one_good rule.kind (value_of offset name rule.kind (object ms)) vs (value_good offset name rule.kind (object ms)) e

-- the next member of an array, which is not null
pub member_next : (f : Data → Result Value Fault) (members : List Json) (i : ℕ) (member : Json) → i < length members → member ≡ get_or members i member → is_given (view member) ≡ true
    → all_given (map f (filter is_given (map view (drop i members)))) ≡ all_given (f (view member) ∷ map f (filter is_given (map view (drop (i + 1) members))))
member_next f members i member lt is given =
    let rest = filter is_given (map view (drop (i + 1) members)) in
    at_drop_more (λ xs. all_given (map f (filter is_given (map view xs)))) members i member lt ∙ ap (λ next. all_given (map f (filter is_given (view next ∷ map view (drop (i + 1) members))))) (sym is)
    ∙ ap (λ b. all_given (map f (cond b (view member ∷ rest) rest))) given

-- an array gives many values
pub array_given : (offset : ℤ) (name : List ℕ) (rule : Rule) (d : Data) (ds : List Data) → d ≡ array (items_of ds) → rule.many ≡ true
    → values_of offset name rule d ≡ all_given (map (value_of offset name rule.kind) (filter is_given ds))
array_given offset name rule d ds is many =
    let all = λ (xs : List Data). all_given (map (value_of offset name rule.kind) (filter is_given xs)) in
    ap (values_of offset name rule) is ∙ ap (λ b. cond b (all (list_of (items_of ds))) (Err (NotSingle name))) many ∙ ap all (list_of-items_of ds)

-- an object gives the attributes of its members, with its strings as text content
pub object_given : (offset : ℤ) (d : Data) (text : List ℕ) (attrs : List Attr) → is_some (as_object d) ≡ true → file_attributes (giving_of offset d) ≡ Ok attrs → text ≡ joined (strings d)
    → attributes_of offset (Some d) ≡ Ok (with_content text attrs)
object_given offset (object ms) text attrs is given content = rw (given, content) refl
object_given offset null text attrs is given content = absurd (cc)
object_given offset (boolean b) text attrs is given content = absurd (cc)
object_given offset (number n) text attrs is given content = absurd (cc)
object_given offset (string s) text attrs is given content = absurd (cc)
object_given offset (array ds) text attrs is given content = absurd (cc)
