use Rattle.std.proofs.Common.{rules, ◌≡◌, true, false, sym, ◌∙◌, ap, arith}
use Rattle.std.specs.List.{prefix_len}
use Rattle.slab.specs.Slab.{get}
use Rattle.md_value.specs.Values.{is_before}
use Rattle.md_world.specs.declared.Row.{Row}
use Rattle.md_world.specs.Tables.{has_path, has_at}
use Rattle.md_sort.specs.Slots.{rows_at}
use Rattle.md_sort.proofs.Placed.{none_out, before_without, prefix_within}
use Rattle.md_sort.proofs.Slots.{has_permuted, length_rows}
use Rattle.md_sort.proofs.index.clear_place.Goals as goal

pub returns-in-Ok-clause-place : goal.returns-in-Ok-clause-place
returns-in-Ok-clause-place c =
    let p = c.args.path.now in
    let before = λ (row : Row). is_before row.path p in
    let rows = rows_at (get c.args.rows.now) c.args.paths.now.items in
    let is : c.in-Ok.place ≡ prefix_len before rows = search rules in
    let has : has_at rows c.in-Ok.place p ≡ true = search rules in
    is ∙ sym (before_without p rows c.requires.by_path) ∙ ap (prefix_len before) (sym (c.take_out_at.ensures.by_path p has))

pub returns-in-Ok-clause-bound : goal.returns-in-Ok-clause-bound
returns-in-Ok-clause-bound c =
    let p = c.args.path.now in
    let before = λ (row : Row). is_before row.path p in
    let rows = rows_at (get c.args.rows.now) c.args.paths.now.items in
    let find = get c.take_out_at.new.rows in
    let left = c.take_out_at.new.paths.items in
    let is : c.in-Ok.place ≡ prefix_len before rows = search rules in
    let has : has_at rows c.in-Ok.place p ≡ true = search rules in
    let at : c.in-Ok.place ≡ prefix_len before (rows_at find left) = is ∙ sym (before_without p rows c.requires.by_path) ∙ ap (prefix_len before) (sym (c.take_out_at.ensures.by_path p has)) in
    let within = prefix_within before (rows_at find left) in
    let long = length_rows find left in
    omega (arith, at, long)

pub returns-in-Err-clause-rows : goal.returns-in-Err-clause-rows
returns-in-Err-clause-rows c =
    let find = get c.args.rows.now in
    let same = has_permuted c.args.path.now (rows_at find c.args.paths.now.items) (rows_at find c.args.places.now.items) c.requires.same in
    let none : has_path (rows_at find c.args.paths.now.items) c.args.path.now ≡ false = search rules in
    sym (none_out c.args.path.now (rows_at find c.args.places.now.items) (sym same ∙ none))

pub returns-in-Err-clause-more : goal.returns-in-Err-clause-more
returns-in-Err-clause-more c =
    let find = get c.args.rows.now in
    let same = has_permuted c.args.path.now (rows_at find c.args.paths.now.items) (rows_at find c.args.places.now.items) c.requires.same in
    let none : has_path (rows_at find c.args.paths.now.items) c.args.path.now ≡ false = search rules in
    λ has. let never = sym none ∙ same ∙ has in cc
