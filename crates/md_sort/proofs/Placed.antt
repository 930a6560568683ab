-- A row set at its place among rows in order, and a path's row taken out.
use Rattle.std.proofs.Common.{◌≡◌, ℕ, zero, suc, ◌+◌, ◌<◌, ◌≤◌, Bool, true, false, not, List, [], ◌∷◌, ◌++◌, length, insert, get_or, refl, sym, ◌∙◌, ap, subst, arith}
use Rattle.std.specs.Prelude.{filter}
use Rattle.std.specs.List.{AllByRecursion, IsDistinct, prefix_len, remove}
use Rattle.std.specs.List.Sorted.{IsPermutation, IsPartitionedBy}
use Rattle.std.proofs.Math.Numerals.{one-add}
use Rattle.std.proofs.lemmas.List.Sorted.{IsPermutation-sym, IsPermutation-trans, IsPermutation-cons, IsPermutation-middle, IsPermutation-filter_both}
use Rattle.std.proofs.lemmas.Map.Keys.{IsDistinct-head, IsDistinct-tail, IsDistinct-cons, IsDistinct-IsPermutation}
use Rattle.std.proofs.lemmas.Bool.{true≢false}
use Rattle.md_value.specs.Values.{PathBytes, is_same, is_before, same_equiv}
use Rattle.md_value.proofs.Orders.{same_exact, same_sym_false, before_trans, before_not_same, before_not_back, before_else_after, itself_not_before}
use Rattle.md_world.specs.declared.Row.{Row}
use Rattle.md_world.specs.declared.order.SortKey.{SortKey}
use Rattle.md_world.specs.Tables.{rows_before, rows_after, with_row, without_path, has_path, has_at}
use Rattle.md_world.specs.Orders.{row_before, IsOrdered, with_placed, IsInOrder}
use Rattle.md_world.proofs.Lookups.{by_test}
use Rattle.md_sort.specs.Kept.{PathsDiffer, AreKept}
use Rattle.md_sort.proofs.Totals.{row_before_trans, row_not_back, row_else_after}

-- no row has the path
abbrev pub AreApart : PathBytes → List Row → Type 0
AreApart path rows = AllByRecursion (λ (row : Row). is_same path row.path ≡ false) rows

pub all_filter : {X : Type 0} (P : X → Type 0) (t : X → Bool) (xs : List X) → AllByRecursion P xs → AllByRecursion P (filter t xs)
all_filter P t [] h = tt
all_filter P t (x ∷ xs) h = by_test (t x) (λ e. rw e (h.0, all_filter P t xs h.1)) (λ e. rw e (all_filter P t xs h.1))

all_append : {X : Type 0} (P : X → Type 0) (xs ys : List X) → AllByRecursion P xs → AllByRecursion P ys → AllByRecursion P (xs ++ ys)
all_append P [] ys h k = k
all_append P (x ∷ xs) ys h k = (h.0, all_append P xs ys h.1 k)

pub all_implied : {X : Type 0} (P Q : X → Type 0) → ((x : X) → P x → Q x) → (xs : List X) → AllByRecursion P xs → AllByRecursion Q xs
all_implied P Q f [] h = tt
all_implied P Q f (x ∷ xs) h = (f x h.0, all_implied P Q f xs h.1)

pub all_at : {X : Type 0} (P : X → Type 0) (xs : List X) (j : ℕ) (d : X) → AllByRecursion P xs → j < length xs → P (get_or xs j d)
all_at P [] j d h lt = absurd (omega arith)
all_at P (x ∷ xs) zero d h lt = h.0
all_at P (x ∷ xs) (suc j) d h lt = all_at P xs j d h.1 (omega arith)

all_passed : {X : Type 0} (t : X → Bool) (xs : List X) → AllByRecursion (λ x. t x ≡ true) (filter t xs)
all_passed t [] = tt
all_passed t (x ∷ xs) = by_test (t x) (λ e. rw e (e, all_passed t xs)) (λ e. rw e (all_passed t xs))

pub paths_flip : (a b : Row) → is_same a.path b.path ≡ is_same b.path a.path
paths_flip a b = same_equiv.symm a.path b.path

pub differ_filter : (t : Row → Bool) (rows : List Row) → PathsDiffer rows → PathsDiffer (filter t rows)
differ_filter t [] h = h
differ_filter t (r ∷ rows) h =
    let rest = differ_filter t rows (IsDistinct-tail _ r rows h) in
    by_test (t r)
    (λ e. rw e (IsDistinct-cons _ r (filter t rows) (all_filter _ t rows (IsDistinct-head _ r rows h)) rest))
    (λ e. rw e rest)

pub differ_permuted : (xs ys : List Row) → IsPermutation xs ys → PathsDiffer xs → PathsDiffer ys
differ_permuted xs ys h k = IsDistinct-IsPermutation _ paths_flip xs ys h k

pub apart_without : (p : PathBytes) (rows : List Row) → AreApart p (without_path rows p)
apart_without p [] = tt
apart_without p (r ∷ rows) =
    by_test (is_same r.path p)
    (λ e. rw e (apart_without p rows))
    (λ e. rw e (same_sym_false r.path p e, apart_without p rows))

-- the rows before a path, and those that are not, among the rows without it
before_others : (p : PathBytes) (rows : List Row) → filter (λ row. is_before row.path p) (without_path rows p) ≡ rows_before p rows
before_others p [] = refl
before_others p (r ∷ rows) =
    by_test (is_same r.path p)
    (λ e.
    let none : is_before r.path p ≡ false = subst (λ q. is_before r.path q ≡ false) (same_exact r.path p e) (itself_not_before r.path) in
    rw (e, none) (before_others p rows))
    (λ e. by_test (is_before r.path p)
    (λ b. rw (e, b) (ap (λ rest. r ∷ rest) (before_others p rows)))
    (λ b. rw (e, b) (before_others p rows)))

after_others : (p : PathBytes) (rows : List Row) → filter (λ row. not (is_before row.path p)) (without_path rows p) ≡ rows_after p rows
after_others p [] = refl
after_others p (r ∷ rows) =
    by_test (is_same r.path p)
    (λ e.
    let none : is_before p r.path ≡ false = subst (λ q. is_before q r.path ≡ false) (same_exact r.path p e) (itself_not_before r.path) in
    rw (e, none) (after_others p rows))
    (λ e. by_test (is_before r.path p)
    (λ b. rw (e, b, before_not_back r.path p b) (after_others p rows))
    (λ b. rw (e, b, before_else_after r.path p e b) (ap (λ rest. r ∷ rest) (after_others p rows))))

-- a row set among rows is that row and the others
pub set_permuted : (rows : List Row) (row : Row) → IsPermutation (row ∷ without_path rows row.path) (with_row rows row)
set_permuted rows row =
    let others = without_path rows row.path in
    let parts : IsPermutation others (rows_before row.path rows ++ rows_after row.path rows) =
    subst (λ xs. IsPermutation others (xs ++ rows_after row.path rows)) (before_others row.path rows)
    (subst (λ ys. IsPermutation others (filter (λ other. is_before other.path row.path) others ++ ys)) (after_others row.path rows)
    (IsPermutation-filter_both (λ other. is_before other.path row.path) (λ other. not (is_before other.path row.path)) (λ other. refl) others)) in
    IsPermutation-trans _ _ _ (IsPermutation-cons row _ _ parts)
    (IsPermutation-sym _ _ (IsPermutation-middle (rows_before row.path rows) row (rows_after row.path rows)))

module _ (order : List SortKey) where
  abbrev before : Row → Row → Bool
  before row other = row_before order other row

  -- each row stands after this one
  abbrev AllAfter : Row → List Row → Type 0
  AllAfter row rows = AllByRecursion (λ (other : Row). row_before order row other ≡ true) rows

  pub ordered_filter : (t : Row → Bool) (rows : List Row) → IsOrdered order rows → IsOrdered order (filter t rows)
  ordered_filter t [] h = tt
  ordered_filter t (r ∷ rows) h =
      by_test (t r)
      (λ e. rw e (all_filter _ t rows h.0, ordered_filter t rows h.1))
      (λ e. rw e (ordered_filter t rows h.1))

  ordered_join : (xs ys : List Row) (r : Row) → IsOrdered order xs → AllByRecursion (λ (other : Row). row_before order other r ≡ true) xs → AllAfter r ys → IsOrdered order ys → IsOrdered order (xs ++ r ∷ ys)
  ordered_join [] ys r hx b a hy = (a, hy)
  ordered_join (x ∷ xs) ys r hx b a hy =
      let later = all_implied _ _ (λ w h. row_before_trans order x r w b.0 h) ys a in
      (all_append _ xs (r ∷ ys) hx.0 (b.0, later), ordered_join xs ys r hx.1 b.1 a hy)

  later_after : (r : Row) (rows : List Row) → AreApart r.path rows → AllAfter r (filter (λ other. not (before r other)) rows)
  later_after r [] h = tt
  later_after r (w ∷ rows) h =
      by_test (row_before order w r)
      (λ e. rw e (later_after r rows h.1))
      (λ e. rw e (row_else_after order w r (same_sym_false r.path w.path h.0) e, later_after r rows h.1))

  pub placed_ordered : (r : Row) (rows : List Row) → AreApart r.path rows → IsOrdered order rows → IsOrdered order (with_placed order r rows)
  placed_ordered r rows apart h =
      ordered_join (filter (before r) rows) (filter (λ other. not (before r other)) rows) r
      (ordered_filter (before r) rows h) (all_passed (before r) rows)
      (later_after r rows apart) (ordered_filter (λ other. not (before r other)) rows h)

  pub placed_permuted : (r : Row) (rows : List Row) → IsPermutation (r ∷ rows) (with_placed order r rows)
  placed_permuted r rows =
      IsPermutation-trans _ _ _ (IsPermutation-cons r _ _ (IsPermutation-filter_both (before r) (λ other. not (before r other)) (λ other. refl) rows))
      (IsPermutation-sym _ _ (IsPermutation-middle (filter (before r) rows) r (filter (λ other. not (before r other)) rows)))

  none_before : (r : Row) (rows : List Row) → AllAfter r rows → filter (before r) rows ≡ []
  none_before r [] h = refl
  none_before r (w ∷ rows) h = rw (row_not_back order r w h.0) (none_before r rows h.1)

  all_after : (r : Row) (rows : List Row) → AllAfter r rows → filter (λ other. not (before r other)) rows ≡ rows
  all_after r [] h = refl
  all_after r (w ∷ rows) h = rw (row_not_back order r w h.0) (ap (λ rest. w ∷ rest) (all_after r rows h.1))

  -- a row that is inserted after those before it stands at its place
  pub inserted : (r : Row) (rows : List Row) → AreApart r.path rows → IsOrdered order rows → insert rows (prefix_len (before r) rows) r ≡ with_placed order r rows
  inserted r [] apart h = refl
  inserted r (w ∷ rows) apart h =
      by_test (row_before order w r)
      (λ e. rw (e, one-add) (ap (λ rest. w ∷ rest) (inserted r rows apart.1 h.1)))
      (λ e.
      let after = row_else_after order w r (same_sym_false r.path w.path apart.0) e in
      let rest = all_implied _ _ (λ v k. row_before_trans order r w v after k) rows h.0 in
      rw (e, none_before r rows rest, all_after r rows rest) refl)

  -- the rows that stand before one are at the beginning
  pub parted : (r : Row) (rows : List Row) → IsOrdered order rows → IsPartitionedBy (before r) rows
  parted r [] h i j d le lt e = absurd (omega arith)
  parted r (w ∷ rows) h zero zero d le lt e = e
  parted r (w ∷ rows) h zero (suc j) d le lt e = row_before_trans order w (get_or rows j d) r (all_at _ rows j d h.0 (omega arith)) e
  parted r (w ∷ rows) h (suc i) zero d le lt e = absurd (omega arith)
  parted r (w ∷ rows) h (suc i) (suc j) d le lt e = parted r rows h.1 i j d (omega arith) (omega arith) e

  -- Rows with one more are kept, and are those with the row set, in order.
  pub set_kept : (row : Row) (rows : List Row) → AreKept order rows → AreKept order (with_placed order row (without_path rows row.path)) × IsInOrder order (with_row rows row) (with_placed order row (without_path rows row.path))
  set_kept row rows kept =
      let others = without_path rows row.path in
      let apart = apart_without row.path rows in
      let distinct = IsDistinct-cons _ row others apart (differ_filter (λ other. not (is_same other.path row.path)) rows kept.distinct) in
      let ordered = placed_ordered row others apart (ordered_filter (λ other. not (is_same other.path row.path)) rows kept.ordered) in
      let moved = placed_permuted row others in (
        record { distinct = differ_permuted _ _ moved distinct; ordered = ordered },
        record { same_rows = IsPermutation-trans _ _ _ (IsPermutation-sym _ _ (set_permuted rows row)) moved; ascends = ordered },
      )

pub others_same : (p : PathBytes) (rows : List Row) → AreApart p rows → without_path rows p ≡ rows
others_same p [] h = refl
others_same p (r ∷ rows) h = rw (same_sym_false p r.path h.0) (ap (λ rest. r ∷ rest) (others_same p rows h.1))

apart_same : (p q : PathBytes) (rows : List Row) → is_same p q ≡ true → AreApart p rows → AreApart q rows
apart_same p q rows e h = subst (λ (x : PathBytes). AreApart x rows) (same_exact p q e) h

-- a row elsewhere does not have the path that the row at a place has
other_path : (p q : PathBytes) (rows : List Row) (i : ℕ) → AreApart q rows → has_at rows i p ≡ true → is_same q p ≡ false
other_path p q [] i apart has = absurd (true≢false (sym has))
other_path p q (r ∷ rows) zero apart has = subst (λ x. is_same q x ≡ false) (same_exact r.path p has) apart.0
other_path p q (r ∷ rows) (suc i) apart has = other_path p q rows i apart.1 has

-- to remove the row at its place is to take its path out
pub removed : (p : PathBytes) (rows : List Row) (i : ℕ) → PathsDiffer rows → has_at rows i p ≡ true → remove rows i ≡ without_path rows p
removed p [] i differ has = absurd (true≢false (sym has))
removed p (r ∷ rows) zero differ has = rw has (sym (others_same p rows (apart_same r.path p rows has (IsDistinct-head _ r rows differ))))
removed p (r ∷ rows) (suc i) differ has =
    rw (other_path p r.path rows i (IsDistinct-head _ r rows differ) has) (ap (λ rest. r ∷ rest) (removed p rows i (IsDistinct-tail _ r rows differ) has))

-- the row at a place is there
pub found_there : (p : PathBytes) (rows : List Row) (i : ℕ) → has_at rows i p ≡ true → has_path rows p ≡ true
found_there p [] i has = absurd (true≢false (sym has))
found_there p (r ∷ rows) zero has = rw has refl
found_there p (r ∷ rows) (suc i) has = by_test (is_same r.path p) (λ e. rw e refl) (λ e. rw e (found_there p rows i has))

-- without a row of the path nothing is taken out
pub none_out : (p : PathBytes) (rows : List Row) → has_path rows p ≡ false → without_path rows p ≡ rows
none_out p [] h = refl
none_out p (r ∷ rows) h =
    by_test (is_same r.path p)
    (λ e. absurd (true≢false (rw e at h)))
    (λ e. rw e (ap (λ rest. r ∷ rest) (none_out p rows (rw e at h))))

pub without_kept : (order : List SortKey) (p : PathBytes) (rows : List Row) → AreKept order rows → AreKept order (without_path rows p)
without_kept order p rows kept =
    record {
      distinct = differ_filter (λ other. not (is_same other.path p)) rows kept.distinct;
      ordered = ordered_filter order (λ other. not (is_same other.path p)) rows kept.ordered;
    }

-- where no row has the path, each row has another one
pub apart_from : (p : PathBytes) (rows : List Row) → has_path rows p ≡ false → AreApart p rows
apart_from p [] h = tt
apart_from p (r ∷ rows) h =
    by_test (is_same r.path p)
    (λ e. absurd (true≢false (rw e at h)))
    (λ e. (same_sym_false r.path p e, apart_from p rows (rw e at h)))

-- no row of the path is left when it is taken out
pub none_left : (p : PathBytes) (rows : List Row) → has_path (without_path rows p) p ≡ false
none_left p [] = refl
none_left p (r ∷ rows) = by_test (is_same r.path p) (λ e. rw e (none_left p rows)) (λ e. rw (e, e) (none_left p rows))

-- rows in order by no key have ascending paths
pub by_path : (p q : Row) → row_before [] p q ≡ is_before p.path q.path
unfolding row_before is_before
by_path p q = refl

pub before_path : (row : Row) (rows : List Row) → prefix_len (λ (other : Row). is_before other.path row.path) rows ≡ prefix_len (λ other. row_before [] other row) rows
before_path row rows i = prefix_len (λ other. sym (by_path other row) i) rows

paths_rise : (r w : Row) (p : PathBytes) → row_before [] r w ≡ true → is_before w.path p ≡ true → is_before r.path p ≡ true
paths_rise r w p h k = before_trans r.path w.path p (sym (by_path r w) ∙ h) k

pub parted_by_path : (p : PathBytes) (rows : List Row) → IsOrdered [] rows → IsPartitionedBy (λ (row : Row). is_before row.path p) rows
parted_by_path p [] h i j d le lt e = absurd (omega arith)
parted_by_path p (w ∷ rows) h zero zero d le lt e = e
parted_by_path p (w ∷ rows) h zero (suc j) d le lt e = paths_rise w (get_or rows j d) p (all_at _ rows j d h.0 (omega arith)) e
parted_by_path p (w ∷ rows) h (suc i) zero d le lt e = absurd (omega arith)
parted_by_path p (w ∷ rows) h (suc i) (suc j) d le lt e = parted_by_path p rows h.1 i j d (omega arith) (omega arith) e

-- as many rows stand before a path when its row is taken out
pub before_without : (p : PathBytes) (rows : List Row) → IsOrdered [] rows → prefix_len (λ (row : Row). is_before row.path p) (without_path rows p) ≡ prefix_len (λ (row : Row). is_before row.path p) rows
before_without p [] h = refl
before_without p (r ∷ rows) h =
    by_test (is_same r.path p)
    (λ e.
    let is = same_exact r.path p e in
    let itself : is_before r.path p ≡ false = subst (λ q. is_before r.path q ≡ false) is (itself_not_before r.path) in
    let later = all_implied _ _ (λ (w : Row) k. subst (λ q. is_before w.path q ≡ false) is (before_not_back r.path w.path (sym (by_path r w) ∙ k))) rows h.0 in
    rw (e, itself) (none_before_path p (without_path rows p) (all_filter _ (λ other. not (is_same other.path p)) rows later)))
    (λ e. by_test (is_before r.path p)
    (λ b. rw (e, b) (ap (λ n. 1 + n) (before_without p rows h.1)))
    (λ b. rw (e, b) refl))
  where
    none_before_path : (p : PathBytes) (rows : List Row) → AllByRecursion (λ (w : Row). is_before w.path p ≡ false) rows → prefix_len (λ (row : Row). is_before row.path p) rows ≡ 0
    none_before_path p [] h = refl
    none_before_path p (w ∷ rows) h = rw h.0 refl

pub prefix_within : (test : Row → Bool) (rows : List Row) → prefix_len test rows ≤ length rows
prefix_within test [] = omega arith
prefix_within test (r ∷ rows) = let rest = prefix_within test rows in by_test (test r) (λ e. rw e (omega arith)) (λ e. rw e (omega arith))

-- rows that stand after a path do not have it
none_after : (p : PathBytes) (r : Row) (rows : List Row) → is_before p r.path ≡ true → IsOrdered [] (r ∷ rows) → has_path (r ∷ rows) p ≡ false
none_after p r [] b h = rw (same_sym_false p r.path (before_not_same p r.path b)) refl
none_after p r (w ∷ rows) b h =
    rw (same_sym_false p r.path (before_not_same p r.path b))
    (none_after p w rows (before_trans p r.path w.path b (sym (by_path r w) ∙ h.0.0)) h.1)

-- where the row at a path's place has another path, no row has it
pub not_there : (p : PathBytes) (rows : List Row) → IsOrdered [] rows → has_at rows (prefix_len (λ (w : Row). is_before w.path p) rows) p ≡ false → has_path rows p ≡ false
not_there p [] h has = refl
not_there p (r ∷ rows) h has =
    by_test (is_before r.path p)
    (λ b. let has' = rw (b, one-add) at has in rw (before_not_same r.path p b) (not_there p rows h.1 has'))
    (λ b. let same = rw b at has in none_after p r rows (before_else_after r.path p same b) h)

pub none_kept : (order : List SortKey) → AreKept order []
unfolding IsDistinct
none_kept order = record { distinct = tt; ordered = tt }
