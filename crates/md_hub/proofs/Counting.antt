-- A store keeps no fewer rows than a version's table has.
use Rattle.std.proofs.Common.{◌≡◌, ℕ, ◌+◌, ◌≤◌, true, false, List, [], ◌∷◌, length, refl, sym, ap, arith, length-append}
use Rattle.std.specs.Prelude.{Option, None, Some, find}
use Rattle.std.specs.Option.{option_map}
use Rattle.md_value.specs.Values.{PathBytes, is_before}
use Rattle.md_value.proofs.Orders.{before_not_back}
use Rattle.md_world.specs.declared.Row.{Row}
use Rattle.md_world.specs.Holding.{with_rows}
use Rattle.md_world.specs.Tables.{rows_before, rows_after, with_row}
use Rattle.md_world.proofs.Lookups.{by_test}
use Rattle.md_store.specs.declared.chain.KeptRow.{KeptRow}
use Rattle.md_store.specs.Chains.{sees, seen_in}
use Rattle.md_store.specs.Places.{Place, row_before, rows_seen, table_at, kept_of}

parts_within : (p : PathBytes) (rows : List Row) → length (rows_before p rows) + length (rows_after p rows) ≤ length rows
parts_within p [] = omega arith
parts_within p (r ∷ rows) =
    let rest = parts_within p rows in
    by_test (is_before r.path p)
    (λ e. rw (e, before_not_back r.path p e) (omega arith))
    (λ e. by_test (is_before p r.path) (λ b. rw (e, b) (omega arith)) (λ b. rw (e, b) (omega arith)))

row_within : (rows : List Row) (r : Row) → length (with_row rows r) ≤ length rows + 1
row_within rows r = let parts = parts_within r.path rows in let join = length-append (rows_before r.path rows) (r ∷ rows_after r.path rows) in omega arith

rows_within : (held rows : List Row) → length (with_rows held rows) ≤ length held + length rows
rows_within held [] = omega arith
rows_within held (r ∷ rows) = let rest = rows_within (with_row held r) rows in let one = row_within held r in omega arith

one_within : (version : ℕ) (chain : List KeptRow) (rest : List Row) (o : Option KeptRow) → find (sees version) chain ≡ o → length (row_before (option_map (λ (kept : KeptRow). kept.row) o) rest) ≤ length chain + length rest
one_within version chain rest None e = omega arith
one_within version [] rest (Some kept) e = cc
one_within version (x ∷ chain) rest (Some kept) e = omega arith

seen_within : (places : List Place) (version : ℕ) → length (rows_seen places version) ≤ kept_of places
seen_within [] version = omega arith
seen_within (place ∷ places) version =
    let rest = seen_within places version in
    let one = one_within version place.rows (rows_seen places version) (find (sees version) place.rows) refl in
    omega arith

pub table_within : (places : List Place) (version : ℕ) → length (table_at places version) ≤ kept_of places
table_within places version = let seen = seen_within places version in let all = rows_within [] (rows_seen places version) in omega arith
