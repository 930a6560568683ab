-- A table differs in nothing from itself.
use Rattle.std.proofs.Common.{◌≡◌, true, false, not, List, [], ◌∷◌, length, refl, sym, ◌∙◌, ap, arith}
use Rattle.std.specs.Prelude.{Option, None, Some}
use Rattle.md_value.specs.Values.{PathBytes}
use Rattle.md_value.proofs.Orders.{same_refl}
use Rattle.md_value.proofs.Equals.{attrs_refl}
use Rattle.md_world.specs.declared.Row.{Row}
use Rattle.md_world.specs.Tables.{IsTable, at, has_path, same_row}
use Rattle.md_world.specs.Differences.{was_other, difference, items_of, lists_path}
use Rattle.md_world.proofs.Lookups.{same_tables, table_filter}
use Rattle.md_world.proofs.Applied.{added_of, changed_of, is_removed, at-added, at-changed, lists-removed}
use Rattle.md_machine.specs.declared.Spec.{Spec}
use Rattle.md_machine.specs.Answers.{answer, diff}
use Rattle.md_machine.proofs.Keeping.{answer_ordered}

row_refl : (row : Row) → same_row row row ≡ true
row_refl row = rw (same_refl row.path, attrs_refl row.attrs) refl

none_added : (o : Option Row) → added_of o o ≡ None
none_added None = refl
none_added (Some row) = refl

none_changed : (o : Option Row) → changed_of o o ≡ None
none_changed None = refl
none_changed (Some row) = rw (row_refl row) refl

none_removed : (o : Option Row) → is_removed o o ≡ false
none_removed None = refl
none_removed (Some row) = refl

no_paths : (paths : List PathBytes) → ((p : PathBytes) → lists_path paths p ≡ false) → paths ≡ []
no_paths [] h = refl
no_paths (q ∷ paths) h = absurd (no (sym (rw (same_refl q) refl) ∙ h q))
  where
    no : true ≡ false → ⊥
    no e = cc

same_added : (rows : List Row) → IsTable rows → (difference rows rows).added ≡ []
same_added rows h = same_tables (difference rows rows).added [] (table_filter (λ row. not (has_path rows row.path)) rows h) tt (λ p. at-added rows rows h h p ∙ none_added (at rows p))

same_changed : (rows : List Row) → IsTable rows → (difference rows rows).changed ≡ []
same_changed rows h = same_tables (difference rows rows).changed [] (table_filter (λ row. was_other (at rows row.path) row) rows h) tt (λ p. at-changed rows rows h h p ∙ none_changed (at rows p))

same_removed : (rows : List Row) → IsTable rows → (difference rows rows).removed ≡ []
same_removed rows h = no_paths (difference rows rows).removed (λ p. lists-removed rows rows h h p ∙ none_removed (at rows p))

-- no item is pending on the table itself
pub none_pending : (spec : Spec) (rows : List Row) → IsTable rows → items_of (diff spec rows rows) ≡ 0
none_pending spec rows h =
    let ordered = answer_ordered spec rows h in
    let hits = answer spec rows in
    let added = ap length (same_added hits ordered) in
    let changed = ap length (same_changed hits ordered) in
    let removed = ap length (same_removed hits ordered) in
    omega arith
