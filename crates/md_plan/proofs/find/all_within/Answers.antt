use Rattle.std.proofs.Common.{subst, ◌∙◌}
use Rattle.std.specs.Prelude.{filter, is_some}
use Rattle.std.specs.Option.{option_map}
use Rattle.md_plan.specs.FoundPlaces.{IsFound}
use Rattle.md_plan.proofs.Sets.{everything_in}
use Rattle.md_plan.proofs.find.all_within.Goals as goal

pub returns : goal.returns
returns c = λ rows all holds are.
    subst (λ test. IsFound c.args.most (filter test all) (option_map (λ v. v.items) c.at_most.result)) (λ i p. everything_in rows p i)
    (c.at_most.ensures all (λ p. is_some (rows p)) are.rising (λ p h. are.listed p ∙ h) (c.in_ok-found.ensures.places rows holds))
