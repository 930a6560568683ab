-- Rows in order: there is such a list, and only one.
use Rattle.std.proofs.Common.{◌≡◌, Bool, true, false, not, List, [], ◌∷◌, refl, sym, ◌∙◌, ap, subst}
use Rattle.std.specs.Prelude.{◌&&◌, filter}
use Rattle.std.specs.List.{AllByRecursion, IsDistinct, list_any}
use Rattle.std.proofs.lemmas.Map.Views.{any-filter_same}
use Rattle.std.specs.List.Sorted.{IsPermutation}
use Rattle.std.proofs.lemmas.List.Elements.{All-from_recursion, recursion_from_All}
use Rattle.std.proofs.lemmas.List.Sorted.{IsPermutation-refl, IsPermutation-sym, IsPermutation-trans, IsPermutation-cons, All-permutation, list_any-IsPermutation}
use Rattle.std.proofs.lemmas.Map.Keys.{IsDistinct-head, IsDistinct-tail}
use Rattle.std.proofs.lemmas.Bool.{false≢true}
use Rattle.md_value.specs.Values.{PathBytes, is_same}
use Rattle.md_value.proofs.Orders.{same_refl, before_not_same}
use Rattle.md_value.proofs.Equals.{attrs_refl}
use Rattle.md_world.specs.declared.Row.{Row}
use Rattle.md_world.specs.declared.order.SortKey.{SortKey}
use Rattle.md_world.specs.Tables.{StandAfter, IsTable, with_row, without_path, same_row}
use Rattle.md_world.specs.Orders.{row_before, IsOrdered, IsInOrder, in_order}
use Rattle.md_world.proofs.Lookups.{by_test, row_exact}
use Rattle.md_sort.specs.Kept.{PathsDiffer, AreKept}
use Rattle.md_sort.proofs.Totals.{row_not_back}
use Rattle.md_sort.proofs.Placed.{AreApart, placed_ordered, placed_permuted, set_permuted, differ_filter, differ_permuted, ordered_filter, by_path}

pub row_refl : (r : Row) → same_row r r ≡ true
row_refl r = rw (same_refl r.path, attrs_refl r.attrs) refl

-- what holds of each row holds of one that is among them
pub of_one : (P : Row → Type 0) (r : Row) (rows : List Row) → AllByRecursion P rows → list_any (same_row r) rows ≡ true → P r
of_one P r [] h e = absurd (false≢true e)
of_one P r (w ∷ rows) h e =
    by_test (same_row r w)
    (λ k. subst P (sym (row_exact r w k)) h.0)
    (λ k. of_one P r rows h.1 (rw k at e))

pub apart_permuted : (r : Row) (xs ys : List Row) → IsPermutation xs ys → AreApart r.path xs → AreApart r.path ys
apart_permuted r xs ys moved h = recursion_from_All _ ys (All-permutation (λ (w : Row). is_same r.path w.path ≡ false) xs ys moved (All-from_recursion _ xs h))

module _ (order : List SortKey) where
  -- a row is not among those after it
  not_again : (r : Row) (rows : List Row) → AllByRecursion (λ (w : Row). row_before order r w ≡ true) rows → list_any (same_row r) rows ≡ false
  not_again r rows h =
      by_test (list_any (same_row r) rows)
      (λ e.
      let after = of_one (λ w. row_before order r w ≡ true) r rows h e in
      absurd (false≢true (sym (row_not_back order r r after) ∙ after)))
      (λ e. e)

  same_tails : (x : Row) (xs ys : List Row) → IsOrdered order (x ∷ xs) → IsOrdered order (x ∷ ys) → ((r : Row) → list_any (same_row r) (x ∷ xs) ≡ list_any (same_row r) (x ∷ ys)) → (r : Row) → list_any (same_row r) xs ≡ list_any (same_row r) ys
  same_tails x xs ys hx hy h r =
      by_test (same_row r x)
      (λ e.
      let is = row_exact r x e in
      subst (λ w. list_any (same_row w) xs ≡ list_any (same_row w) ys) (sym is) (not_again x xs hx.0 ∙ sym (not_again x ys hy.0)))
      (λ e. let k = h r in rw e at k)

  -- Two lists in order with the same rows are equal.
  pub same_lists : (xs ys : List Row) → IsOrdered order xs → IsOrdered order ys → ((r : Row) → list_any (same_row r) xs ≡ list_any (same_row r) ys) → xs ≡ ys
  same_lists [] [] hx hy h = refl
  same_lists [] (y ∷ ys) hx hy h = let k = h y in absurd (false≢true (rw (row_refl y) at k))
  same_lists (x ∷ xs) [] hx hy h = let k = sym (h x) in absurd (false≢true (rw (row_refl x) at k))
  same_lists (x ∷ xs) (y ∷ ys) hx hy h =
      by_test (same_row x y)
      (λ e.
      let first : y ≡ x = sym (row_exact x y e) in
      let hy' : IsOrdered order (x ∷ ys) = subst (λ w. IsOrdered order (w ∷ ys)) first hy in
      let h' : ((r : Row) → list_any (same_row r) (x ∷ xs) ≡ list_any (same_row r) (x ∷ ys)) = subst (λ w. (r : Row) → list_any (same_row r) (x ∷ xs) ≡ list_any (same_row r) (w ∷ ys)) first h in
      let rest = same_lists xs ys hx.1 hy.1 (same_tails x xs ys hx hy' h') in
      cc)
      (λ e.
      let back : same_row y x ≡ false = by_test (same_row y x) (λ k. absurd (false≢true (sym e ∙ subst (λ w. same_row x w ≡ true) (sym (row_exact y x k)) (row_refl x)))) (λ k. k) in
      let x_there : list_any (same_row x) ys ≡ true = let k = h x in sym (rw (row_refl x, e) at k) in
      let y_there : list_any (same_row y) xs ≡ true = let k = h y in rw (row_refl y, back) at k in
      let y_first = of_one (λ w. row_before order y w ≡ true) x ys hy.0 x_there in
      let x_first = of_one (λ w. row_before order x w ≡ true) y xs hx.0 y_there in
      absurd (false≢true (sym (row_not_back order x y x_first) ∙ y_first)))

  pub is_there : (rows : List Row) → PathsDiffer rows → IsInOrder order rows (in_order order rows)
  is_there [] h = record { same_rows = IsPermutation-refl []; ascends = tt }
  is_there (r ∷ rows) h =
      let rest = is_there rows (IsDistinct-tail _ r rows h) in
      let apart = apart_permuted r rows (in_order order rows) rest.same_rows (IsDistinct-head _ r rows h) in
      record {
        same_rows = IsPermutation-trans _ _ _ (IsPermutation-cons r _ _ rest.same_rows) (placed_permuted order r (in_order order rows));
        ascends = placed_ordered order r (in_order order rows) apart rest.ascends;
      }

  pub is_alone : (rows some other : List Row) → IsInOrder order rows some → IsInOrder order rows other → some ≡ other
  is_alone rows some other h k =
      same_lists some other h.ascends k.ascends
      (λ r. sym (list_any-IsPermutation (same_row r) rows some h.same_rows) ∙ list_any-IsPermutation (same_row r) rows other k.same_rows)

-- Rows with distinct paths and the same rows among them are the same in another order.
pub same_members : (xs ys : List Row) → PathsDiffer xs → PathsDiffer ys → ((r : Row) → list_any (same_row r) xs ≡ list_any (same_row r) ys) → IsPermutation xs ys
same_members xs ys hx hy h =
    let x_order = is_there [] xs hx in
    let y_order = is_there [] ys hy in
    let one : in_order [] xs ≡ in_order [] ys =
    same_lists [] (in_order [] xs) (in_order [] ys) x_order.ascends y_order.ascends
    (λ r. sym (list_any-IsPermutation (same_row r) xs (in_order [] xs) x_order.same_rows) ∙ h r ∙ list_any-IsPermutation (same_row r) ys (in_order [] ys) y_order.same_rows) in
    IsPermutation-trans _ _ _ (subst (IsPermutation xs) one x_order.same_rows) (IsPermutation-sym _ _ y_order.same_rows)

-- a test keeps the same rows, in whatever order they are
pub filter_permuted : (t : Row → Bool) (xs ys : List Row) → PathsDiffer xs → IsPermutation xs ys → IsPermutation (filter t xs) (filter t ys)
filter_permuted t xs ys hx moved =
    same_members (filter t xs) (filter t ys) (differ_filter t xs hx) (differ_filter t ys (differ_permuted xs ys moved hx))
    (λ r.
    any-filter_same (same_row r) t (t r) (λ w e. ap t (sym (row_exact r w e))) xs
    ∙ ap (λ b. t r && b) (list_any-IsPermutation (same_row r) xs ys moved)
    ∙ sym (any-filter_same (same_row r) t (t r) (λ w e. ap t (sym (row_exact r w e))) ys))

-- the rows of a table have distinct paths
pub table_differ : (rows : List Row) → IsTable rows → PathsDiffer rows
unfolding IsDistinct
table_differ [] h = tt
table_differ (r ∷ rows) h = (apart rows h.0, table_differ rows h.1)
  where
    apart : (others : List Row) → StandAfter r.path others → AreApart r.path others
    apart [] k = tt
    apart (w ∷ others) k = (before_not_same r.path w.path k.0, apart others k.1)

-- the rows of a table are in order by no key
pub table_ordered : (rows : List Row) → IsTable rows → IsOrdered [] rows
table_ordered [] h = tt
table_ordered (r ∷ rows) h = (later rows h.0, table_ordered rows h.1)
  where
    later : (others : List Row) → StandAfter r.path others → AllByRecursion (λ (w : Row). row_before [] r w ≡ true) others
    later [] k = tt
    later (w ∷ others) k = (by_path r w ∙ k.0, later others k.1)

-- rows in order by no key are a table
pub ordered_table : (rows : List Row) → IsOrdered [] rows → IsTable rows
ordered_table [] h = tt
ordered_table (r ∷ rows) h = (later rows h.0, ordered_table rows h.1)
  where
    later : (others : List Row) → AllByRecursion (λ (w : Row). row_before [] r w ≡ true) others → StandAfter r.path others
    later [] k = tt
    later (w ∷ others) k = (sym (by_path r w) ∙ k.0, later others k.1)

-- rows with distinct paths, put in path order, are a table
pub in_path_order : (rows : List Row) → PathsDiffer rows → IsTable (in_order [] rows)
in_path_order rows differ = ordered_table (in_order [] rows) (is_there [] rows differ).ascends

-- a table that was put in another order is had back
pub table_again : (order : List SortKey) (table : List Row) → IsTable table → in_order [] (in_order order table) ≡ table
table_again order table h =
    let there = is_there order table (table_differ table h) in
    let differ = differ_permuted _ _ there.same_rows (table_differ table h) in
    is_alone [] (in_order order table) _ table (is_there [] (in_order order table) differ)
    record { same_rows = IsPermutation-sym _ _ there.same_rows; ascends = table_ordered table h }

-- rows that show a table in order are kept, and are the one list that does
pub shown_kept : (order : List SortKey) (table rows : List Row) → IsTable table → IsInOrder order table rows → AreKept order rows × (rows ≡ in_order order table)
shown_kept order table rows h shown = (
  record { distinct = differ_permuted table rows shown.same_rows (table_differ table h); ordered = shown.ascends },
  is_alone order table rows (in_order order table) shown (is_there order table (table_differ table h)),
)

-- kept rows show their table
pub kept_shown : (order : List SortKey) (rows : List Row) → AreKept order rows → IsInOrder order (in_order [] rows) rows
kept_shown order rows kept =
    record { same_rows = IsPermutation-sym _ _ (is_there [] rows kept.distinct).same_rows; ascends = kept.ordered }

module _ (order : List SortKey) (table rows : List Row) (h : IsTable table) (shown : IsInOrder order table rows) where
  -- A table's row is set in rows that have the table in order.
  pub set_shown : (row : Row) (after : List Row) → IsInOrder order (with_row rows row) after → IsInOrder order (with_row table row) after
  set_shown row after set =
      let others = filter_permuted (λ other. not (is_same other.path row.path)) table rows (table_differ table h) shown.same_rows in
      record {
        same_rows =
            IsPermutation-trans _ _ _ (IsPermutation-sym _ _ (set_permuted table row))
            (IsPermutation-trans _ _ _ (IsPermutation-cons row _ _ others) (IsPermutation-trans _ _ _ (set_permuted rows row) set.same_rows));
        ascends = set.ascends;
      }

  -- A table's path is taken out of rows that have the table in order.
  pub out_shown : (p : PathBytes) → IsInOrder order (without_path table p) (without_path rows p)
  out_shown p =
      record {
        same_rows = filter_permuted (λ other. not (is_same other.path p)) table rows (table_differ table h) shown.same_rows;
        ascends = ordered_filter order (λ other. not (is_same other.path p)) rows shown.ascends;
      }
