-- What an index counts between the edges of a probe, and what its rows have there.
use Rattle.std.proofs.Common.{◌≡◌, ℕ, Bool, true, false, not, cond, ◌&&◌, List, [], ◌∷◌, sym, ◌∙◌, ap, subst}
use Rattle.std.specs.Prelude.{Option, Some, None}
use Rattle.std.specs.Ordering.{nat_cmp, is_eq}
use Rattle.std.specs.Cmp.Lexicographic.{slice_cmp}
use Rattle.std.specs.List.{list_any, AllByRecursion}
use Rattle.std.specs.Map.{lookup}
use Rattle.std.specs.BTreeMap.{BTreeMap, get, is_at, IsOrdered}
use Rattle.std.proofs.lemmas.List.Elements.{recursion_from_All}
use Rattle.std.proofs.lemmas.Map.Views.{All-found}
use Rattle.std.proofs.lemmas.Bool.{false≢true, or_left, or_right}
use Rattle.md_value.specs.Values.{is_same}
use Rattle.md_value.specs.Attrs.{text_content}
use Rattle.md_value.specs.declared.value.Value.{Value}
use Rattle.md_world.specs.Orders.{value_cmp}
use Rattle.md_world.specs.declared.Row.{Row}
use Rattle.md_world.proofs.Lookups.{by_test}
use Rattle.md_index.specs.declared.between.Probe.{Probe}
use Rattle.md_index.specs.declared.places.Places.{Places}
use Rattle.md_index.specs.Order.{value_equiv, value_total}
use Rattle.md_index.specs.Between.{is_between}
use Rattle.md_index.specs.Facts.{values_named, has_value, row_has}
use Rattle.md_index.specs.States.{is_on, place_state, state_in, value_state, named_state, state}
use Rattle.md_index.specs.Indexed.{Names, HoldRows, counted_between, row_between}
use Rattle.md_index.proofs.Bools.{one_bool, and_first, and_second, or_else, both_true}
use Rattle.md_index.proofs.Exact.{exact_value}

-- ---- the values of one attribute

-- a value between the edges at which the place is counted
pub record Between (probe : Probe) (values : BTreeMap Value Places) (p : ℕ) : Type 0 where
  pub value : Value
  pub between : is_between probe value ≡ true
  pub on : is_on (value_state values value p) ≡ true

pub between_found : (probe : Probe) (values : BTreeMap Value Places) (es : List (Value × Places)) → AllByRecursion (λ (e : Value × Places). get value_cmp values e.0 ≡ Some e.1) es
    → (p : ℕ) → counted_between probe es p ≡ true → Between probe values p
between_found probe values [] all p h = absurd (false≢true h)
between_found probe values (e ∷ es) all p h =
    by_test (is_between probe e.0 && is_on (place_state e.1 p))
    (λ t. record {
      value = e.0;
      between = and_first (is_between probe e.0) (is_on (place_state e.1 p)) t;
      on = ap (λ o. is_on (state_in o p)) all.0 ∙ and_second (is_between probe e.0) (is_on (place_state e.1 p)) t;
    })
    (λ t. between_found probe values es all.1 p (or_else (is_between probe e.0 && is_on (place_state e.1 p)) (counted_between probe es p) h t))

pub between_counted : (probe : Probe) (es : List (Value × Places)) (v : Value) (p : ℕ) → is_between probe v ≡ true → is_on (state_in (lookup (is_at (value_cmp v)) es) p) ≡ true → counted_between probe es p ≡ true
between_counted probe [] v p between h = h
between_counted probe (e ∷ es) v p between h =
    let first = is_between probe e.0 && is_on (place_state e.1 p) in
    by_test (is_eq (value_cmp v e.0))
    (λ t.
    let same : v ≡ e.0 = exact_value v e.0 t in
    let on : is_on (place_state e.1 p) ≡ true = subst (λ b. is_on (state_in (cond b (Some e.1) (lookup (is_at (value_cmp v)) es)) p) ≡ true) t h in
    let here : is_between probe e.0 ≡ true = subst (λ w. is_between probe w ≡ true) same between in
    or_left first (counted_between probe es p) (both_true (is_between probe e.0) (is_on (place_state e.1 p)) here on))
    (λ t. or_right first (counted_between probe es p) (between_counted probe es v p between (subst (λ b. is_on (state_in (cond b (Some e.1) (lookup (is_at (value_cmp v)) es)) p) ≡ true) t h)))

-- ---- the values of a row

row_shown : (probe : Probe) → is_same probe.name text_content ≡ false → (row : Option Row) → row_between probe row ≡ true → (v : Value) × (is_between probe v ≡ true) × (row_has row probe.name v ≡ true)
row_shown probe other None h = absurd (false≢true h)
row_shown probe other (Some row) h =
    let shown = value_there (is_between probe) (values_named row.attrs probe.name) h in
    (shown.0, shown.1, both_true (not (is_same probe.name text_content)) (has_value (values_named row.attrs probe.name) shown.0) (ap not other) shown.2)
  where
    value_there : (test : Value → Bool) (values : List Value) → list_any test values ≡ true → (v : Value) × (test v ≡ true) × (has_value values v ≡ true)
    value_there test [] h = absurd (false≢true h)
    value_there test (v ∷ values) h =
        by_test (test v)
        (λ t. (v, t, or_left (is_eq (value_cmp v v)) (has_value values v) (value_equiv.refl v)))
        (λ t.
        let later = value_there test values (or_else (test v) (list_any test values) h t) in
        (later.0, later.1, or_right (is_eq (value_cmp v later.0)) (has_value values later.0) later.2))

there_value : (test : Value → Bool) (values : List Value) (v : Value) → test v ≡ true → has_value values v ≡ true → list_any test values ≡ true
there_value test [] v is h = h
there_value test (w ∷ values) v is h =
    by_test (is_eq (value_cmp w v))
    (λ t. or_left (test w) (list_any test values) (subst (λ x. test x ≡ true) (sym (exact_value w v t)) is))
    (λ t. or_right (test w) (list_any test values) (there_value test values v is (or_else (is_eq (value_cmp w v)) (has_value values v) h t)))

shows_row : (probe : Probe) (row : Option Row) (v : Value) → is_between probe v ≡ true → row_has row probe.name v ≡ true → row_between probe row ≡ true
shows_row probe None v between h = absurd (false≢true (and_second (not (is_same probe.name text_content)) false h))
shows_row probe (Some row) v between h =
    there_value (is_between probe) (values_named row.attrs probe.name) v between (and_second (not (is_same probe.name text_content)) (has_value (values_named row.attrs probe.name) v) h)

module _ (names : Names) (probe : Probe) (other : is_same probe.name text_content ≡ false) (rows : ℕ → Option Row) (holds : HoldRows names rows) (p : ℕ) where
  pub in_range : (values : BTreeMap Value Places) → get (slice_cmp nat_cmp) names probe.name ≡ Some values → IsOrdered value_cmp values → counted_between probe values.entries p ≡ row_between probe (rows p)
  in_range values found ordered =
      let is_state : (v : Value) → state names probe.name v p ≡ value_state values v p = λ v. ap (λ o. named_state o v p) found in
      one_bool _ _
      (λ h.
      let b = between_found probe values values.entries (recursion_from_All _ values.entries (All-found value_total values ordered)) p h in
      shows_row probe (rows p) b.value b.between (sym (holds probe.name b.value p) ∙ ap is_on (is_state b.value) ∙ b.on))
      (λ h.
      let shown = row_shown probe other (rows p) h in
      between_counted probe values.entries shown.0 p shown.1 (ap is_on (sym (is_state shown.0)) ∙ holds probe.name shown.0 p ∙ shown.2))

  pub out_of_range : get (slice_cmp nat_cmp) names probe.name ≡ None → false ≡ row_between probe (rows p)
  out_of_range absent =
      one_bool _ _
      (λ h. cc)
      (λ h.
      let shown = row_shown probe other (rows p) h in
      ap (λ o. is_on (named_state o shown.0 p)) (sym absent) ∙ holds probe.name shown.0 p ∙ shown.2)
