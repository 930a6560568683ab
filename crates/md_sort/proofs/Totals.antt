-- The order of rows is a total one, in which only rows of one path tie.
use Rattle.std.proofs.Common.{◌≡◌, ℕ, Bool, true, false, List, [], ◌∷◌, refl, sym, ◌∙◌, ap, subst}
use Rattle.std.specs.Prelude.{ℤ, Option, None, Some}
use Rattle.std.specs.declared.cmp.Ordering.{Ordering}
use Rattle.std.specs.declared.cmp.Ordering.TheVariants.{Less, Equal, Greater}
use Rattle.std.specs.Ordering.{nat_cmp, int_cmp, bool_cmp, ordering_then, ordering_reverse, then_cmp, flip_args, on, is_lt, is_eq}
use Rattle.std.specs.Cmp.{IsTotalOrder, on_total, then_total, back_total, bool_cmp_total}
use Rattle.std.specs.Cmp.Lexicographic.{slice_cmp, options_total}
use Rattle.std.specs.Option.{option_cmp}
use Rattle.std.proofs.lemmas.Cmp.{nat_cmp_total, int_cmp_total, nat_list_cmp_total}
use Rattle.std.proofs.lemmas.Map.Lookups.{exact_bytes}
use Rattle.std.proofs.lemmas.Bool.{false≢true}
use Rattle.md_value.specs.Values.{is_same}
use Rattle.md_value.specs.declared.value.Value.{Value}
use Rattle.md_value.proofs.Orders.{same_refl}
use Rattle.md_world.specs.declared.Row.{Row}
use Rattle.md_world.specs.declared.order.SortKey.{SortKey}
use Rattle.md_world.specs.Orders.{rank, value_cmp, first_value, first_cmp, key_cmp, row_cmp, row_before}
use Rattle.md_world.specs.ValueOrder.{value_total}

-- two values the other way round, where ascending ones are asked for
abbrev turned_cmp : Bool → Value → Value → Ordering
turned_cmp true = value_cmp
turned_cmp false = flip_args value_cmp

turned_total : (descending : Bool) → IsTotalOrder (turned_cmp descending)
turned_total true = value_total
turned_total false = back_total value_total

as_options : (descending : Bool) (a b : Option Value) → option_cmp (turned_cmp descending) b a ≡ first_cmp descending a b
as_options descending None None = refl
as_options descending None (Some b) = refl
as_options descending (Some a) None = refl
as_options true (Some a) (Some b) = refl
as_options false (Some a) (Some b) = refl

first_total : (descending : Bool) → IsTotalOrder (first_cmp descending)
first_total descending = subst IsTotalOrder (λ i a b. as_options descending a b i) (back_total (options_total (turned_total descending)))

pub row_total : (order : List SortKey) → IsTotalOrder (row_cmp order)
row_total [] = on_total (λ (row : Row). row.path) nat_list_cmp_total
row_total (key ∷ keys) = then_total (on_total (λ (row : Row). first_value row key.name) (first_total key.descending)) (row_total keys)

then_ties : (o u : Ordering) → ordering_then o u ≡ Equal → u ≡ Equal
then_ties Less u h = cc
then_ties Equal u h = h
then_ties Greater u h = cc

-- rows that tie have the same path
row_tie : (order : List SortKey) (a b : Row) → row_cmp order a b ≡ Equal → a.path ≡ b.path
row_tie [] a b h = exact_bytes a.path b.path h
row_tie (key ∷ keys) a b h = row_tie keys a b (then_ties (key_cmp key a b) (row_cmp keys a b) h)

less : (o : Ordering) → is_lt o ≡ true → o ≡ Less
less Less h = refl
less Equal h = cc
less Greater h = cc

reversed : (o : Ordering) → is_lt o ≡ true → is_lt (ordering_reverse o) ≡ false
reversed Less h = refl
reversed Equal h = cc
reversed Greater h = cc

turned : (o : Ordering) → is_eq o ≡ false → is_lt o ≡ false → is_lt (ordering_reverse o) ≡ true
turned Less h k = cc
turned Equal h k = cc
turned Greater h k = refl

apart : (o : Ordering) → (o ≡ Equal → ⊥) → is_eq o ≡ false
apart Less h = refl
apart Equal h = absurd (h refl)
apart Greater h = refl

pub row_before_trans : (order : List SortKey) (a b c : Row) → row_before order a b ≡ true → row_before order b c ≡ true → row_before order a c ≡ true
unfolding row_before
row_before_trans order a b c h k = ap is_lt ((row_total order).trans a b c (less (row_cmp order a b) h) (less (row_cmp order b c) k))

pub row_not_back : (order : List SortKey) (a b : Row) → row_before order a b ≡ true → row_before order b a ≡ false
unfolding row_before
row_not_back order a b h = ap is_lt ((row_total order).antisymm b a) ∙ reversed (row_cmp order a b) h

-- of two rows with different paths one stands before the other
pub row_else_after : (order : List SortKey) (a b : Row) → is_same a.path b.path ≡ false → row_before order a b ≡ false → row_before order b a ≡ true
unfolding row_before
row_else_after order a b differ h =
    ap is_lt ((row_total order).antisymm b a)
    ∙ turned (row_cmp order a b) (apart (row_cmp order a b) (λ e. false≢true (sym differ ∙ ap (is_same a.path) (sym (row_tie order a b e)) ∙ same_refl a.path))) h
