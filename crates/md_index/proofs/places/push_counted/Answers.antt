use Rattle.std.proofs.Common.{rules, ◌≡◌, sym, ap, ◌∙◌}
use Rattle.std.proofs.lemmas.Result.{IfOk-weaker}
use Rattle.md_index.specs.declared.places.Places.TheVariants.{Many}
use Rattle.md_index.specs.States.{is_on, place_state}
use Rattle.md_index.specs.Indexed.{in_blocks}
use Rattle.md_index.proofs.Adding.{adds_same}
use Rattle.md_index.proofs.Bits.{in_blocks_is}
use Rattle.md_index.proofs.places.push_counted.Goals as goal

pub returns-in-Many-clause-adds : goal.returns-in-Many-clause-adds
returns-in-Many-clause-adds c =
    let blocks = c.in-Many.blocks in
    let is : c.args.places.now ≡ Many blocks = search rules in
    IfOk-weaker c.push_counted.result _ _
    (λ whole adds.
    adds_same c.args.out.now.items c.push_counted.new.places.items whole (in_blocks blocks.entries) (λ p. is_on (place_state c.args.places.now p))
    (λ p. in_blocks_is blocks c.push_counted.ensures.ordered p ∙ ap (λ x. is_on (place_state x p)) (sym is)) adds)
    c.push_counted.ensures.adds
