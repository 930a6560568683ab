use Rattle.std.proofs.Common.{rules, ◌≡◌, ◌++◌, ◌∷◌, [], length, take, sym, ap, ◌∙◌, arith}
use Rattle.std.specs.Prelude.{Some, None, slice_get, slice_index_or}
use Rattle.std.specs.Option.{option_copied}
use Rattle.std.proofs.lemmas.List.{take_all, map-append}
use Rattle.std.proofs.lemmas.Option.{slice_get-get_or}
use denote.Ref.{Bor}
use Rattle.md_world.specs.declared.Row.{Row}
use Rattle.md_world.specs.Tables.{at}
use Rattle.md_world.proofs.Lookups.{some_inj}
use Rattle.md_store.specs.Places.{table_at, path_at}
use Rattle.md_query.specs.Rows.{rows_of}
use Rattle.md_query.proofs.Turns.{listed_within, listed_row, one_more, as_many}
use Rattle.md_query.proofs.reading.read.Goals as goal

pub row_at-requires-clause-place : goal.row_at-requires-clause-place
row_at-requires-clause-place g c =
    let all = c.deref-place-items.result.now in
    let j = c.loop-place.place-index in
    let place = slice_index_or all j 0 in
    let there : slice_get c.in_ok-places.places.items j ≡ Some place = ap (λ xs. slice_get xs j) (sym c.deref-place-items.ensures.value) ∙ slice_get-get_or all j 0 c.loop-place-test.true in
    listed_within c.args.store.now.places c.args.version c.in_ok-places.places.items c.in_ok-places.ensures j place there

pub unreachable-requires : goal.unreachable-requires
unreachable-requires g c =
    let all = c.deref-place-items.result.now in
    let j = c.loop-place.place-index in
    let place = slice_index_or all j 0 in
    let there : slice_get c.in_ok-places.places.items j ≡ Some place = ap (λ xs. slice_get xs j) (sym c.deref-place-items.ensures.value) ∙ slice_get-get_or all j 0 c.loop-place-test.true in
    let r = listed_row c.args.store.now.places c.args.version c.in_ok-places.places.items c.in_ok-places.ensures j place there in
    none_some r.0 (sym (ap option_copied c.in_default.is) ∙ c.row_at.ensures.row ∙ r.2)
  where
    none_some : (r : Row) → None ≡ Some r → ⊥
    none_some r e = cc

pub loop-place-preserved : goal.loop-place-preserved
loop-place-preserved g c =
    let all = c.deref-place-items.result.now in
    let j = c.loop-place.place-index in
    let place = slice_index_or all j 0 in
    let places = c.args.store.now.places in
    let table = table_at places c.args.version in
    let there : slice_get c.in_ok-places.places.items j ≡ Some place = ap (λ xs. slice_get xs j) (sym c.deref-place-items.ensures.value) ∙ slice_get-get_or all j 0 c.loop-place-test.true in
    let r = listed_row places c.args.version c.in_ok-places.places.items c.in_ok-places.ensures j place there in
    let read : Some c.in-Some.row.now ≡ at table (path_at places place) = search rules in
    let same : c.in-Some.row.now ≡ r.0 = some_inj c.in-Some.row.now r.0 (read ∙ r.2) in
    let items : c.push.new.self.items ≡ c.loop-place.rows.items ++ c.in-Some.row ∷ [] = search rules in
    let read_before = c.loop-place.invariant.1 in
    let one = c.row_at.ensures.cost in (
      ap rows_of items ∙ map-append (λ (hit : Bor Row). hit.now) c.loop-place.rows.items (c.in-Some.row ∷ [])
          ∙ ap (λ xs. xs ++ c.in-Some.row.now ∷ []) c.loop-place.invariant.0
          ∙ ap (λ (x : Row). take j table ++ x ∷ []) same ∙ sym (one_more table j r.0 r.1),
      omega arith,
    )

pub returns-clause-rows : goal.returns-clause-rows
returns-clause-rows g c =
    let table = table_at c.args.store.now.places c.args.version in
    let many = as_many c.args.store.now.places table c.in_ok-places.places.items c.in_ok-places.ensures in
    let size : length c.deref-place-items.result.now ≡ length c.in_ok-places.places.items = ap length c.deref-place-items.ensures.value in
    c.loop-place.invariant.0 ∙ take_all c.loop-place.place-index table (omega (arith, many, size))
