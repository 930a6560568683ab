use Rattle.std.proofs.Common.{◌<◌, ◌≤◌, ◌^◌, ◌-◌, length, subst, arith}
use Rattle.std.specs.Prelude.{Some}
use Rattle.std.specs.Option.{option_map}
use Rattle.md_plan.specs.Plans.{plan_set}
use Rattle.md_plan.specs.FoundPlaces.{is_in, places_of, size_of, IsFound}
use Rattle.md_plan.proofs.Sets.{all_pass}
use Rattle.md_plan.proofs.plan.Plan.find.Goals as goal

pub returns-in-Some : goal.returns-in-Some
returns-in-Some c = λ rows all holds are fits.
    let places = places_of rows all (plan_set (size_of rows all) c.args.self.now) in
    let found : IsFound c.loop.most places (Some c.in-Some.few.items) =
    subst (λ found. IsFound c.loop.most places (option_map (λ v. v.items) found)) c.in-Some.is (c.in_ok-found.ensures rows all holds are) in
    found.0

pub returns-in-Some-last : goal.returns-in-Some-last
returns-in-Some-last c = λ rows all holds are fits.
    let places = places_of rows all (plan_set (size_of rows all) c.args.self.now) in
    let found : IsFound (2 ^ 64 - 1) places (Some c.in-Some-last.all.items) =
    subst (λ found. IsFound (2 ^ 64 - 1) places (option_map (λ v. v.items) found)) c.in-Some-last.is (c.in_ok-last.ensures rows all holds are) in
    found.0

pub returns-in-None : goal.returns-in-None
returns-in-None c = λ rows all holds are fits.
    let set = plan_set (size_of rows all) c.args.self.now in
    let places = places_of rows all set in
    let over : 2 ^ 64 - 1 < length places =
    subst (λ found. IsFound (2 ^ 64 - 1) places (option_map (λ v. v.items) found)) c.in-None.is (c.in_ok-last.ensures rows all holds are) in
    let least : length places ≤ length all = all_pass (is_in rows set) all in
    absurd (omega arith)
