-- Comparisons of lists of values.
use Rattle.std.proofs.Common.{◌≡◌, ◌≤◌, ◌<◌, ℕ, ◌+◌, Bool, false, ◌&&◌, ◌||◌, List, [], ◌∷◌, refl, sym, ap, ◌∙◌, length, drop, get_or}
use Rattle.std.specs.Option.{option_map_or}
use Rattle.std.specs.List.{list_any}
use Rattle.std.proofs.lemmas.List.{at_drop_more, at_drop_all}
use Rattle.std.proofs.lemmas.List.Folds.{list_any-append}
use Rattle.std.proofs.lemmas.Option.{slice_get-get_or}
use Rattle.md_value.specs.Attrs.{Attr}
use Rattle.md_value.specs.declared.value.Value.{Value}
use Rattle.md_expr_tree.specs.declared.tree.Op.{Op}
use Rattle.md_expr_tree.specs.declared.tree.Op.TheVariants as op
use Rattle.md_match.specs.Meets.{Resolved, meets}
use Rattle.md_match.specs.Satisfies.{all_values, compares, has_between}
use Rattle.md_match.specs.Ready.{is_met, values_at}
use Rattle.md_match.specs.declared.wanted.Wanted.{Wanted}

pub values_step : (test : Value → Bool) (attrs : List Attr) (i : ℕ) → i < length attrs → list_any test (all_values (drop i attrs)) ≡ (list_any test (values_at attrs i) || list_any test (all_values (drop (i + 1) attrs)))
values_step test attrs i h =
    let none : Attr = ([], []) in
    let here : values_at attrs i ≡ (get_or attrs i none).1 = ap (λ o. option_map_or (λ (attr : Attr). attr.1) o []) (slice_get-get_or attrs i none h) in
    at_drop_more (λ (left : List Attr). list_any test (all_values left)) attrs i none h
    ∙ list_any-append test (get_or attrs i none).1 (all_values (drop (i + 1) attrs))
    ∙ ap (λ values. list_any test values || list_any test (all_values (drop (i + 1) attrs))) (sym here)

pub values_end : (test : Value → Bool) (attrs : List Attr) (i : ℕ) → length attrs ≤ i → list_any test (all_values (drop i attrs)) ≡ false
values_end test attrs i h = at_drop_all (λ (left : List Attr). list_any test (all_values left)) attrs i h

-- tests that say the same of each value say the same of a list
pub list_any-same : (p q : Value → Bool) → ((v : Value) → p v ≡ q v) → (values : List Value) → list_any p values ≡ list_any q values
list_any-same p q same [] = refl
list_any-same p q same (v ∷ values) = rw (same v, list_any-same p q same values) refl

-- what is wanted is what meets the literal
abbrev pub IsWanted : Op → Wanted → Resolved → Type 0
IsWanted o w l = (v : Value) → is_met w v ≡ meets o v l

pub some_compares : (o : Op) (w : Wanted) (l : Resolved) → (o ≡ op.NotEqual → ⊥) → IsWanted o w l → (values : List Value) → list_any (is_met w) values ≡ compares o l values
some_compares op.NotEqual w l differs same values = absurd (differs refl)
some_compares op.Equal w l differs same values = list_any-same (is_met w) (λ v. meets op.Equal v l) same values
some_compares op.Less w l differs same values = list_any-same (is_met w) (λ v. meets op.Less v l) same values
some_compares op.Greater w l differs same values = list_any-same (is_met w) (λ v. meets op.Greater v l) same values
some_compares op.LessEqual w l differs same values = list_any-same (is_met w) (λ v. meets op.LessEqual v l) same values
some_compares op.GreaterEqual w l differs same values = list_any-same (is_met w) (λ v. meets op.GreaterEqual v l) same values

pub some_between : (least greatest : Wanted) (low high : Resolved) → IsWanted op.GreaterEqual least low → IsWanted op.LessEqual greatest high → (values : List Value) → list_any (λ v. is_met least v && is_met greatest v) values ≡ has_between low high values
some_between least greatest low high from to values =
    list_any-same (λ v. is_met least v && is_met greatest v) (λ v. meets op.GreaterEqual v low && meets op.LessEqual v high) (λ v. rw (from v, to v) refl) values
