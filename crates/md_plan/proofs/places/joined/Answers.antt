use Rattle.std.proofs.Common.{rules, ◌<◌, ◌≤◌, length, [], true, refl, ◌∙◌}
use Rattle.md_index.specs.Indexed.{Adds}
use Rattle.md_index.proofs.Adding.{adds_all}
use Rattle.md_plan.proofs.Sets.{found_whole, found_more}
use Rattle.md_plan.proofs.places.joined.Goals as goal

pub returns-then-most-len : goal.returns-then-most-len
returns-then-most-len c all test rising within same =
    let places = c.in_order.new.places.items in
    let more : c.args.most < length places = search rules in
    let adds : Adds [] places true test = adds_all [] places true test (λ p. c.in_order.ensures.same p ∙ same p) in
    found_more c.args.most all test rising within places c.in_order.ensures.upward true adds more

pub returns : goal.returns
returns c all test rising within same =
    let places = c.in_order.new.places.items in
    let few : length places ≤ c.args.most = search rules in
    let adds : Adds [] places true test = adds_all [] places true test (λ p. c.in_order.ensures.same p ∙ same p) in
    found_whole c.args.most all test rising within places c.in_order.ensures.upward true adds refl few
