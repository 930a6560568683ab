-- Records, columns and the values in them.
use Rattle.std.proofs.Common.{◌≡◌, ℕ, Bool, true, false, List, [], ◌∷◌, length, map, Option, Some, None, Ok, Err, ℤ, cond, chars, refl, ◌∙◌, subst, pos, codes}
use Rattle.std.specs.List.{AllByRecursion, flat_map}
use Rattle.std.specs.Option.{ok_or}
use Rattle.md_value.specs.declared.fault.Fault.{Fault}
use Rattle.md_value.specs.declared.fault.Fault.TheVariants.{NotSingle}
use Rattle.md_value.specs.declared.schema.Rule.{Rule}
use Rattle.md_value.specs.declared.value.Kind.{Kind}
use Rattle.md_value.specs.declared.value.Kind.TheVariants as kind
use Rattle.md_value.specs.declared.value.Value.{Value}
use Rattle.md_value.specs.declared.value.Value.TheVariants as value
use Rattle.imp_rules.specs.Faults.{made_of, all_given}
use Rattle.imp_rules.proofs.Given.{IsOf, given_each}
use Rattle.imp_rules.proofs.Dates.{date_good}
use Rattle.imp_csv.specs.Numbers.{whole_number}
use Rattle.md_value.specs.Attrs.{Attr}
use Rattle.imp_rules.specs.Content.{joined}
use Rattle.imp_rules.specs.Files.{with_values, with_content}
use Rattle.imp_csv.specs.Tables.{Row, with_table, header_of, later_of, value_of, values_of}

number_good : (n : Option ℤ) (fault : Fault) (v : Value) → made_of value.Number (ok_or n fault) ≡ Ok v → IsOf kind.Number v
number_good (Some z) fault v e = let same : value.Number z ≡ v = cc in subst (IsOf kind.Number) same (tt, refl)
number_good None fault v e = absurd (cc)

value_good : (offset : ℤ) (name : List ℕ) (k : Kind) (field : List ℕ) (v : Value) → value_of offset name k field ≡ Ok v → IsOf k v
value_good offset name kind.Text field v e = let same : value.Text (chars field) ≡ v = cc in subst (IsOf kind.Text) same (tt, refl)
value_good offset name kind.Number field v e = number_good (whole_number field) _ v e
value_good offset name kind.Moment field v e = date_good name field offset v e
value_good offset name kind.Flag field v e = absurd (cc)

unless_many : (offset : ℤ) (name : List ℕ) (rule : Rule) (fields : List (List ℕ)) (b : Bool) (vs : List Value) → cond b (Err (NotSingle name)) (all_given (map (value_of offset name rule.kind) fields)) ≡ Ok vs
    → AllByRecursion (IsOf rule.kind) vs
unless_many offset name rule fields true vs e = absurd (cc)
unless_many offset name rule fields false vs e = given_each (IsOf rule.kind) (value_of offset name rule.kind) (value_good offset name rule.kind) fields vs e

-- the values that are given are of the rule's kind, and may stand
pub values_good : (offset : ℤ) (name : List ℕ) (rule : Rule) (fields : List (List ℕ)) (vs : List Value) → values_of offset name rule fields ≡ Ok vs → AllByRecursion (IsOf rule.kind) vs
values_good offset name rule fields vs e = unless_many offset name rule fields _ vs e

-- the attributes of a table, put one after another
pub table_put : (rows : List Row) (attrs first second last : List Attr) (columns later : ℕ) (text : List ℕ) → columns ≡ length (header_of rows) → later ≡ length (later_of rows)
    → first ≡ with_values attrs (codes "md_csv_columns") (value.Number (pos columns) ∷ []) → second ≡ with_values first (codes "md_csv_rows") (value.Number (pos later) ∷ [])
    → text ≡ joined (flat_map (λ row. row) rows) → last ≡ with_content text second → last ≡ with_table rows attrs
table_put rows attrs first second last columns later text are_columns are_rows put_columns put_rows content put = put ∙ rw (content, put_rows, put_columns, are_columns, are_rows) refl
