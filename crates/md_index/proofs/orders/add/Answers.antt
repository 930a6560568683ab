use Rattle.std.proofs.Common.{◌≡◌, ℕ, Bool, List, true, false}
use Rattle.std.proofs.lemmas.Result.{IfOk-weaker}
use Rattle.md_index.specs.declared.between.Mark.TheVariants as mark
use Rattle.md_index.specs.Between.{mark_of}
use Rattle.md_index.specs.Keys.{is_keyed, keys_at}
use Rattle.md_index.proofs.Bools.{both_flags}
use Rattle.md_index.proofs.orders.add.Goals as goal

pub returns-clause-there : goal.returns-clause-there
returns-clause-there c =
    let fact = c.args.fact.now in
    IfOk-weaker c.add_folded-2.result _ _
    (λ r second. both_flags
    (λ fold. (marks : Bool) (k : List ℕ) → mark_of fold marks fact.indexed ≡ mark.Text k → is_keyed (keys_at c.add_folded-2.new.orders (record { name = fact.name; fold = fold; marks = marks })) k fact.indexed ≡ true)
    (λ marks k is. c.add_folded-2.ensures.grows.kept (record { name = fact.name; fold = false; marks = marks }) k fact.indexed (c.in_ok-add_folded.ensures.there marks k is)) second)
    c.add_folded-2.ensures.there
