-- Rows and paths that are brought into rows in order.
use Rattle.std.proofs.Common.{◌≡◌, ℕ, List, [], ◌∷◌, ◌++◌, refl, sym, ◌∙◌, subst}
use Rattle.md_value.specs.Values.{PathBytes}
use Rattle.md_world.specs.declared.Row.{Row}
use Rattle.md_world.specs.declared.Part.{Part}
use Rattle.md_world.specs.declared.Notice.{Notice}
use Rattle.md_world.specs.declared.order.SortKey.{SortKey}
use Rattle.md_world.specs.Tables.{IsTable, with_row, without_path}
use Rattle.md_world.specs.Holding.{with_rows, without_paths}
use Rattle.md_world.specs.Orders.{IsInOrder, in_order}
use Rattle.md_world.proofs.Tables.{table_without_path, table_without_paths, table_with_rows}
use Rattle.md_sort.specs.Kept.{AreKept}
use Rattle.md_sort.proofs.Alone.{set_shown, out_shown, in_path_order, kept_shown, shown_kept}
use Rattle.md_notice.specs.Following.{Followed, with_part, with_notice}

rows_last : (held rows : List Row) (row : Row) → with_rows held (rows ++ row ∷ []) ≡ with_row (with_rows held rows) row
rows_last held [] row = refl
rows_last held (r ∷ rows) row = rows_last (with_row held r) rows row

pub rows_join : (held some more : List Row) → with_rows held (some ++ more) ≡ with_rows (with_rows held some) more
rows_join held [] more = refl
rows_join held (r ∷ some) more = rows_join (with_row held r) some more

module _ (order : List SortKey) where
  -- one row more is set
  pub one_more : (table rows : List Row) (row : Row) (held after : List Row) → IsTable table → IsInOrder order (with_rows table rows) held → IsInOrder order (with_row held row) after → IsInOrder order (with_rows table (rows ++ row ∷ [])) after
  one_more table rows row held after h shown set =
      subst (λ t. IsInOrder order t after) (sym (rows_last table rows row))
      (set_shown order (with_rows table rows) held (table_with_rows table rows h) shown row after set)

  all_out : (table held : List Row) (paths : List PathBytes) → IsTable table → IsInOrder order table held → IsInOrder order (without_paths table paths) (without_paths held paths)
  all_out table held [] h shown = shown
  all_out table held (p ∷ paths) h shown =
      all_out (without_path table p) (without_path held p) paths (table_without_path table p h) (out_shown order table held h shown p)

  -- whatever table was shown, the rows are set in it
  abbrev pub Sets : List Row → List Row → List Row → Type 0
  Sets rows news after = (table : List Row) → IsTable table → IsInOrder order table rows → IsInOrder order (with_rows table news) after

  module _ (rows : List Row) (kept : AreKept order rows) where
    is_table : IsTable (in_order [] rows)
    is_table = in_path_order rows kept.distinct

    -- kept rows after rows are set
    set : (news after : List Row) → Sets rows news after → AreKept order after × (after ≡ in_order order (with_rows (in_order [] rows) news))
    set news after sets = shown_kept order _ after (table_with_rows _ news is_table) (sets _ is_table (kept_shown order rows kept))

    -- kept rows after paths are taken out and rows are set
    noticed : (paths : List PathBytes) (changed added after : List Row) → Sets (without_paths rows paths) (changed ++ added) after
        → AreKept order after × (after ≡ in_order order (with_rows (with_rows (without_paths (in_order [] rows) paths) changed) added))
    noticed paths changed added after sets =
        let less : IsTable (without_paths (in_order [] rows) paths) = table_without_paths _ paths is_table in
        let left = all_out _ rows paths is_table (kept_shown order rows kept) in
        subst (λ (t : List Row). AreKept order after × (after ≡ in_order order t)) (rows_join (without_paths (in_order [] rows) paths) changed added)
        (shown_kept order _ after (table_with_rows _ (changed ++ added) less) (sets _ less left))

abbrev pub followed : List SortKey → List Row → ℕ → Followed
followed order rows version = record { order = order; rows = rows; version = version }

-- rows in an order, as they were made room for, and as they are after
module _ (f : Followed) (kept : AreKept f.order f.rows) (order last : List SortKey) (same : order ≡ f.order) (still : last ≡ order) (news after : List Row) where
  -- the follower after a part
  pub part_is : (part : Part) (rows : List Row) → rows ≡ f.rows → news ≡ part.hits → Sets order rows news after → AreKept last after × (followed last after f.version ≡ with_part f part)
  part_is part rows stay are sets =
      let is = set f.order f.rows kept part.hits after (subst (λ (o : List SortKey). Sets o f.rows part.hits after) same
      (subst (λ (old : List Row). Sets order old part.hits after) stay (subst (λ (new : List Row). Sets order rows new after) are sets))) in
      (subst (λ (o : List SortKey). AreKept o after) (sym (still ∙ same)) is.0, (λ i. followed ((still ∙ same) i) (is.1 i) f.version))

  -- the follower after a notice
  pub notice_is : (notice : Notice) (taken : List Row) → taken ≡ without_paths f.rows notice.removed → news ≡ notice.changed ++ notice.added → Sets order taken news after
      → AreKept last after × (followed last after notice.to ≡ with_notice f notice)
  notice_is notice taken out are sets =
      let is = noticed f.order f.rows kept notice.removed notice.changed notice.added after (subst (λ (o : List SortKey). Sets o (without_paths f.rows notice.removed) (notice.changed ++ notice.added) after) same
      (subst (λ (old : List Row). Sets order old (notice.changed ++ notice.added) after) out (subst (λ (new : List Row). Sets order taken new after) are sets))) in
      (subst (λ (o : List SortKey). AreKept o after) (sym (still ∙ same)) is.0, (λ i. followed ((still ∙ same) i) (is.1 i) notice.to))
