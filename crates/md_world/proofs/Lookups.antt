-- What tables have at a path, and that this is all there is to them.
use Rattle.std.proofs.Common.{◌≡◌, Bool, true, false, not, cond, List, [], ◌∷◌, refl, sym, ◌∙◌, ap, subst}
use Rattle.std.specs.Prelude.{Option, None, Some, filter}
use Rattle.std.specs.Option.{option_or}
use Rattle.std.proofs.lemmas.List.Folds.{find-append}
use Rattle.md_value.specs.Values.{PathBytes, is_same, is_before}
use Rattle.md_value.specs.Attrs.{same_attrs}
use Rattle.md_value.proofs.Orders.{same_exact, same_refl, same_sym_false, before_trans, before_not_same, before_not_back, before_else_after, itself_not_before}
use Rattle.md_value.proofs.Equals.{both, attrs_exact}
use Rattle.md_world.specs.declared.Row.{Row}
use Rattle.md_world.specs.declared.Change.{Change}
use Rattle.md_world.specs.declared.Change.TheVariants.{Put, Remove}
pub use Rattle.md_world.specs.Tables.{row_of}
use Rattle.md_world.specs.Tables.{after, StandAfter, IsTable, at, rows_before, rows_after, with_row, without_path, same_row}

-- cases of a test, each with what the test gave
pub by_test : {P : Type 0} (b : Bool) → (b ≡ true → P) → (b ≡ false → P) → P
by_test true f g = f refl
by_test false f g = g refl

-- rows that the test finds the same are equal
pub row_exact : (a b : Row) → same_row a b ≡ true → a ≡ b
row_exact a b h =
    let parts = both (is_same a.path b.path) (same_attrs a.attrs b.attrs) h in
    let path = same_exact a.path b.path parts.0 in
    let attrs = attrs_exact a.attrs b.attrs parts.1 in
    ap (λ (p : PathBytes). record { path = p; attrs = a.attrs }) path ∙ ap (λ attrs. record { path = b.path; attrs = attrs }) attrs

pub some_inj : {A : Type 0} (x y : A) → Some x ≡ Some y → x ≡ y
some_inj x y h = cc

some_not_none : {A : Type 0} (x : A) (o : Option A) → o ≡ Some x → o ≡ None → ⊥
some_not_none x o h k = cc

-- a row that is found has the path
pub at_path : (rows : List Row) (p : PathBytes) (row : Row) → at rows p ≡ Some row → row.path ≡ p
at_path [] p row h = cc
at_path (r ∷ rows) p row h =
    by_test (is_same r.path p)
    (λ e. ap (λ (x : Row). x.path) (sym (some_inj r row (rw e at h))) ∙ same_exact r.path p e)
    (λ e. at_path rows p row (rw e at h))

-- a row stands at its path, if it is the first
pub at_own : (x : Row) (xs : List Row) → at (x ∷ xs) x.path ≡ Some x
at_own x xs = rw (same_refl x.path) refl

-- no row of rows that stand after a path has it
pub at_prefix : (p : PathBytes) (rows : List Row) → StandAfter p rows → at rows p ≡ None
at_prefix p [] h = refl
at_prefix p (r ∷ rows) h = rw (same_sym_false p r.path (before_not_same p r.path h.0)) (at_prefix p rows h.1)

pub stand_after_trans : (p q : PathBytes) (rows : List Row) → is_before p q ≡ true → StandAfter q rows → StandAfter p rows
stand_after_trans p q [] h k = tt
stand_after_trans p q (r ∷ rows) h k = (before_trans p q r.path h k.0, stand_after_trans p q rows h k.1)

-- below the same first row, two tables that have the same rows go on with the same rows
same_tails : (x : Row) (xs ys : List Row) → StandAfter x.path xs → StandAfter x.path ys → ((p : PathBytes) → at (x ∷ xs) p ≡ at (x ∷ ys) p) → (p : PathBytes) → at xs p ≡ at ys p
same_tails x xs ys hx hy h p =
    by_test (is_same x.path p)
    (λ e. subst (λ q. at xs q ≡ at ys q) (same_exact x.path p e) (at_prefix x.path xs hx ∙ sym (at_prefix x.path ys hy)))
    (λ e. let k = h p in rw e at k)

-- the first rows of two tables that have the same rows
first_not_before : (x y : Row) (xs ys : List Row) → StandAfter y.path ys → at (x ∷ xs) x.path ≡ at (y ∷ ys) x.path → is_before x.path y.path ≡ true → ⊥
first_not_before x y xs ys hy h e =
    some_not_none x (at (y ∷ ys) x.path) (sym h ∙ at_own x xs) (at_prefix x.path (y ∷ ys) (e, stand_after_trans x.path y.path ys e hy))

same_first : (x y : Row) (xs ys : List Row) → is_same y.path x.path ≡ true → at (x ∷ xs) x.path ≡ at (y ∷ ys) x.path → x ≡ y
same_first x y xs ys e h = some_inj x y (sym (at_own x xs) ∙ h ∙ rw e refl)

-- Two tables that have the same row at each path are equal.
pub same_tables : (xs ys : List Row) → IsTable xs → IsTable ys → ((p : PathBytes) → at xs p ≡ at ys p) → xs ≡ ys
same_tables [] [] hx hy h = refl
same_tables [] (y ∷ ys) hx hy h = absurd (some_not_none y (at (y ∷ ys) y.path) (at_own y ys) (sym (h y.path)))
same_tables (x ∷ xs) [] hx hy h = absurd (some_not_none x (at (x ∷ xs) x.path) (at_own x xs) (h x.path))
same_tables (x ∷ xs) (y ∷ ys) hx hy h =
    by_test (is_same y.path x.path)
    (λ e.
    let first = same_first x y xs ys e (h x.path) in
    let after : StandAfter x.path ys = subst (λ (w : Row). StandAfter w.path ys) (sym first) hy.0 in
    let alike : ((p : PathBytes) → at (x ∷ xs) p ≡ at (x ∷ ys) p) = subst (λ (w : Row). (p : PathBytes) → at (x ∷ xs) p ≡ at (w ∷ ys) p) (sym first) h in
    let rest = same_tables xs ys hx.1 hy.1 (same_tails x xs ys hx.0 after alike) in
    cc)
    (λ e. by_test (is_before y.path x.path)
    (λ k. absurd (first_not_before y x ys xs hx.0 (sym (h y.path)) k))
    (λ k. absurd (first_not_before x y xs ys hy.0 (h x.path) (before_else_after y.path x.path e k))))

-- a test that each row of a path passes changes nothing at the path
pub at_passed : (t : Row → Bool) (p : PathBytes) → ((row : Row) → row.path ≡ p → t row ≡ true) → (rows : List Row) → at (filter t rows) p ≡ at rows p
at_passed t p h [] = refl
at_passed t p h (r ∷ rows) =
    by_test (is_same r.path p)
    (λ e. rw (h r (same_exact r.path p e), e) refl)
    (λ e. by_test (t r)
    (λ k. rw (k, e) (at_passed t p h rows))
    (λ k. rw (k, e) (at_passed t p h rows)))

-- a test that no row of a path passes leaves none there
pub at_failed : (t : Row → Bool) (p : PathBytes) → ((row : Row) → row.path ≡ p → t row ≡ false) → (rows : List Row) → at (filter t rows) p ≡ None
at_failed t p h [] = refl
at_failed t p h (r ∷ rows) =
    by_test (is_same r.path p)
    (λ e. rw (h r (same_exact r.path p e)) (at_failed t p h rows))
    (λ e. by_test (t r)
    (λ k. rw (k, e) (at_failed t p h rows))
    (λ k. rw k (at_failed t p h rows)))

-- the row, if it passes the test
abbrev pub passing : (Row → Bool) → Option Row → Option Row
passing t None = None
passing t (Some row) = cond (t row) (Some row) None

pub stand_after_filter : (t : Row → Bool) (p : PathBytes) (rows : List Row) → StandAfter p rows → StandAfter p (filter t rows)
stand_after_filter t p [] h = tt
stand_after_filter t p (r ∷ rows) h =
    by_test (t r)
    (λ e. rw e (h.0, stand_after_filter t p rows h.1))
    (λ e. rw e (stand_after_filter t p rows h.1))

pub table_filter : (t : Row → Bool) (rows : List Row) → IsTable rows → IsTable (filter t rows)
table_filter t [] h = tt
table_filter t (r ∷ rows) h =
    by_test (t r)
    (λ e. rw e (stand_after_filter t r.path rows h.0, table_filter t rows h.1))
    (λ e. rw e (table_filter t rows h.1))

-- what the filtered table has at a path
pub at_filter : (t : Row → Bool) (p : PathBytes) (rows : List Row) → IsTable rows → at (filter t rows) p ≡ passing t (at rows p)
at_filter t p [] h = refl
at_filter t p (r ∷ rows) h =
    by_test (is_same r.path p)
    (λ e. by_test (t r)
    (λ k. rw (k, e, k) refl)
    (λ k. rw (k, e, k) (subst (λ q. at (filter t rows) q ≡ None) (same_exact r.path p e) (at_prefix r.path (filter t rows) (stand_after_filter t r.path rows h.0)))))
    (λ e. by_test (t r)
    (λ k. rw (k, e) (at_filter t p rows h.1))
    (λ k. rw (k, e) (at_filter t p rows h.1)))

or_none : {A : Type 0} (o : Option A) → option_or o None ≡ o
or_none None = refl
or_none (Some x) = refl

-- the three parts round the path of a row, looked up
at_parts : (rows : List Row) (r : Row) (p : PathBytes) → option_or (at (rows_before r.path rows) p) (at (r ∷ rows_after r.path rows) p) ≡ cond (is_same r.path p) (Some r) (at rows p)
at_parts rows r p =
    by_test (is_same r.path p)
    (λ e.
    let own = same_exact r.path p e in
    let before : at (rows_before r.path rows) p ≡ None =
    at_failed (λ row. is_before row.path r.path) p (λ row h. not_before_itself row.path r.path (h ∙ sym own)) rows in
    rw (before, e) refl)
    (λ e. by_test (is_before r.path p)
    (λ k.
    let before : at (rows_before r.path rows) p ≡ None =
    at_failed (λ row. is_before row.path r.path) p (λ row h. ap (λ q. is_before q r.path) h ∙ before_not_back r.path p k) rows in
    let after : at (rows_after r.path rows) p ≡ at rows p =
    at_passed (λ row. is_before r.path row.path) p (λ row h. ap (is_before r.path) h ∙ k) rows in
    rw (before, e, after) refl)
    (λ k.
    let back = before_else_after r.path p e k in
    let before : at (rows_before r.path rows) p ≡ at rows p =
    at_passed (λ row. is_before row.path r.path) p (λ row h. ap (λ q. is_before q r.path) h ∙ back) rows in
    let after : at (rows_after r.path rows) p ≡ None =
    at_failed (λ row. is_before r.path row.path) p (λ row h. ap (is_before r.path) h ∙ k) rows in
    rw (before, e, after) (or_none (at rows p))))
  where
    not_before_itself : (q w : PathBytes) → q ≡ w → is_before q w ≡ false
    not_before_itself q w h = subst (λ v. is_before q v ≡ false) h (itself_not_before q)

-- what there is at a path after a row is set
pub at-with_row : (rows : List Row) (r : Row) (p : PathBytes) → at (with_row rows r) p ≡ cond (is_same r.path p) (Some r) (at rows p)
at-with_row rows r p = find-append (λ row. is_same row.path p) (rows_before r.path rows) (r ∷ rows_after r.path rows) ∙ at_parts rows r p

-- what there is at a path after a path is taken out
pub at-without_path : (rows : List Row) (q p : PathBytes) → at (without_path rows q) p ≡ cond (is_same q p) None (at rows p)
at-without_path rows q p =
    by_test (is_same q p)
    (λ e. rw e (at_failed (λ row. not (is_same row.path q)) p (λ row h. ap not (ap (λ v. is_same v q) (h ∙ sym (same_exact q p e)) ∙ same_refl q)) rows))
    (λ e. rw e (at_passed (λ row. not (is_same row.path q)) p (λ row h. ap not (ap (λ v. is_same v q) h ∙ same_sym_false q p e)) rows))

-- what there is at a path after a commit
pub at-after : (rows : List Row) (q : PathBytes) (change : Change) (p : PathBytes) → at (after rows q change) p ≡ cond (is_same q p) (row_of q change) (at rows p)
at-after rows q (Put attrs) p = at-with_row rows (record { path = q; attrs = attrs }) p
at-after rows q Remove p = at-without_path rows q p
