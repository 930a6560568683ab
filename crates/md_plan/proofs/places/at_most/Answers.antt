use Rattle.std.proofs.Common.{rules, ◌≡◌, ◌<◌, ◌≤◌, length, true, false}
use Rattle.md_plan.proofs.Sets.{found_whole, found_more}
use Rattle.md_plan.proofs.places.at_most.Goals as goal

pub returns-then-not-whole : goal.returns-then-not-whole
returns-then-not-whole c all test rising within adds =
    let part : c.args.found.whole ≡ false = search rules in
    found_more c.args.most all test rising within c.args.found.places.items c.requires.rising c.args.found.whole adds (c.requires.over part)

pub returns-then-most-len : goal.returns-then-most-len
returns-then-most-len c all test rising within adds =
    let more : c.args.most < length c.args.found.places.items = search rules in
    found_more c.args.most all test rising within c.args.found.places.items c.requires.rising c.args.found.whole adds more

pub returns : goal.returns
returns c all test rising within adds =
    let whole : c.args.found.whole ≡ true = search rules in
    let few : length c.args.found.places.items ≤ c.args.most = search rules in
    found_whole c.args.most all test rising within c.args.found.places.items c.requires.rising c.args.found.whole adds whole few
