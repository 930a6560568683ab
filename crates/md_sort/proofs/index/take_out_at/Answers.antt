use Rattle.std.proofs.Common.{rules, ◌≡◌, sym, subst}
use Rattle.std.specs.Prelude.{Some, slice_get}
use Rattle.std.specs.List.{remove}
use Rattle.slab.specs.Slab.{get}
use Rattle.md_world.specs.Tables.{without_path}
use Rattle.md_sort.specs.Slots.{rows_at, AreIndexed}
use Rattle.md_sort.proofs.Slots.{taken_out}
use Rattle.md_sort.proofs.index.take_out_at.Goals as goal

pub returns-clause-rows : goal.returns-clause-rows
returns-clause-rows c =
    let keys = c.args.keys.now in
    let find = get c.args.rows.now in
    let after = get c.try_remove.new.self in
    let paths = c.args.paths.now.items in
    let places = c.args.places.now.items in
    let i = c.args.place in
    let at : slice_get paths i ≡ Some c.in-Some.slot = search rules in
    let out = taken_out keys find paths places c.requires.indexed after c.in-Some.slot c.try_remove.ensures.updates.others i c.own_place-other.result at c.own_place-other.ensures.bound c.own_place-other.ensures.row in
    λ p has. subst (λ slots. rows_at after slots ≡ without_path (rows_at find places) p) (sym c.remove-2.ensures.items) (out.1 p has).0

pub returns-clause-by_path : goal.returns-clause-by_path
returns-clause-by_path c =
    let keys = c.args.keys.now in
    let find = get c.args.rows.now in
    let after = get c.try_remove.new.self in
    let paths = c.args.paths.now.items in
    let places = c.args.places.now.items in
    let i = c.args.place in
    let at : slice_get paths i ≡ Some c.in-Some.slot = search rules in
    let out = taken_out keys find paths places c.requires.indexed after c.in-Some.slot c.try_remove.ensures.updates.others i c.own_place-other.result at c.own_place-other.ensures.bound c.own_place-other.ensures.row in
    λ p has. subst (λ slots. rows_at after slots ≡ without_path (rows_at find paths) p) (sym c.remove.ensures.items) (out.1 p has).1

pub returns-clause-indexed : goal.returns-clause-indexed
returns-clause-indexed c =
    let keys = c.args.keys.now in
    let find = get c.args.rows.now in
    let after = get c.try_remove.new.self in
    let paths = c.args.paths.now.items in
    let places = c.args.places.now.items in
    let i = c.args.place in
    let at : slice_get paths i ≡ Some c.in-Some.slot = search rules in
    let out = taken_out keys find paths places c.requires.indexed after c.in-Some.slot c.try_remove.ensures.updates.others i c.own_place-other.result at c.own_place-other.ensures.bound c.own_place-other.ensures.row in
    subst (λ slots. AreIndexed keys after slots c.remove-2.new.self.items) (sym c.remove.ensures.items) (subst (λ slots. AreIndexed keys after (remove paths i) slots) (sym c.remove-2.ensures.items) out.0)
