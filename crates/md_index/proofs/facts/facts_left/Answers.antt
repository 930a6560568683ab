use Rattle.std.proofs.Common.{rules, ◌≡◌, ◌&&◌, not, sym, ap, ◌∙◌}
use Rattle.std.specs.Prelude.{Some, None}
use Rattle.std.specs.Option.{option_map}
use Rattle.std.proofs.lemmas.Result.{IfOk-weaker}
use Rattle.md_index.specs.Facts.{row_has, has_fact}
use Rattle.md_index.proofs.Listing.{facts_are, none_are}
use Rattle.md_index.proofs.facts.facts_left.Goals as goal

pub returns-in-Some : goal.returns-in-Some
returns-in-Some c =
    let row = c.in-Some.row.now in
    let other = option_map (λ r. r.now) c.args.other in
    let given : option_map (λ r. r.now) c.args.row ≡ Some row = search rules in
    IfOk-weaker c.facts_in.result _ _
    (λ facts is n v. ap (λ fs. has_fact fs n v) is ∙ facts_are other n v row c.has_shape.ensures ∙ ap (λ r. row_has r n v && not (row_has other n v)) (sym given))
    c.facts_in.ensures

pub returns-in-None : goal.returns-in-None
returns-in-None c n v =
    let other = option_map (λ r. r.now) c.args.other in
    let given : option_map (λ r. r.now) c.args.row ≡ None = search rules in
    ap (λ fs. has_fact fs n v) c.new.ensures.items ∙ none_are other n v ∙ ap (λ r. row_has r n v && not (row_has other n v)) (sym given)
